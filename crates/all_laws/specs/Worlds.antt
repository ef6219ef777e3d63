-- A book and the two shelves that are lent to its calls.
use Rattle.std.specs.Prelude.{◌≡◌, replicate, None}
use Rattle.shelf.specs.Limits.{shelf_places}
use Rattle.table.specs.Tables.{blank_table}
use Rattle.book.specs.declared.book.Book.{Book}
use Rattle.book.specs.Shelves.{Shelves, both}
use Rattle.book.specs.States.{State, state}

pub record World (P Q : Type 0) : Type 0 where
  pub book : Book
  pub shelves : Shelves P Q

-- the world with another book in it, or with other shelves
abbrev pub with_book : {P Q : Type 0} → World P Q → Book → World P Q
with_book w b = record { book = b; shelves = w.shelves }

abbrev pub with_shelves : {P Q : Type 0} → World P Q → Shelves P Q → World P Q
with_shelves w s = record { book = w.book; shelves = s }

abbrev pub world : {P Q : Type 0} → Book → Shelves P Q → World P Q
world b s = record { book = b; shelves = s }

-- its table and shelves
abbrev pub state_of : {P Q : Type 0} → World P Q → State P Q
state_of w = state w.book.ledger.table w.shelves

-- a blank book and empty shelves
pub record New {P Q : Type 0} (w : World P Q) : Type 0 where
  pub blank : w.book.ledger.table ≡ blank_table
  pub empty : w.shelves ≡ both (replicate shelf_places None) (replicate shelf_places None)
