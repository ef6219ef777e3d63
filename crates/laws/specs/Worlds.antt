-- A book and the two shelves that are lent to its calls.
use Rattle.std.specs.Prelude.{◌≡◌, List, replicate, None, Option}
use Rattle.shelf.specs.declared.held.Held.{Held}
use Rattle.shelf.specs.Limits.{shelf_places}
use Rattle.table.specs.Tables.{blank_table}
use Rattle.book.specs.declared.book.Book.{Book}

pub record World (P Q : Type 0) : Type 0 where
  pub book : Book
  pub first : List (Option (Held P))
  pub second : List (Option (Held Q))

-- the world with another book in it
abbrev pub with_book : {P Q : Type 0} → World P Q → Book → World P Q
with_book w b = record { book = b; first = w.first; second = w.second }

-- a blank book and empty shelves
pub record New {P Q : Type 0} (w : World P Q) : Type 0 where
  pub blank : w.book.ledger.table ≡ blank_table
  pub first_empty : w.first ≡ replicate shelf_places None
  pub second_empty : w.second ≡ replicate shelf_places None
