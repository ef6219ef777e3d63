-- Calls on a book, each accepted or refused, with any inputs, and calls one after another.
use Rattle.std.specs.Prelude.{ℕ, List, ℤ, Result}
use Rattle.pledge.specs.Numbers.{Numbers}
use Rattle.table.specs.declared.refusal.Refusal.{Refusal}
use Rattle.table.specs.Act.{Acted}
use Rattle.table.specs.Days.{open_act}
use Rattle.table.specs.Accounts.{enrol_act, apply_act, return_act, deposit_act}
use Rattle.table.specs.Offers.{offer_act, withdraw_act}
use Rattle.book.specs.declared.book.Book.{Book}
use Rattle.laws.specs.Worlds.{World, with_book}

module _ {P Q : Type 0} (n : Numbers P) (m : Numbers Q) where
  -- one call on the book of a world; its last argument is what the call promises
  pub data Call (w : World P Q) : World P Q → Type 0 where
    opens : (b : Book) (prices : List ℕ) (r : Result ℕ Refusal) → Acted (open_act prices) w.book.ledger.table b.ledger.table r → Call w (with_book w b)
    enrols : (b : Book) (account firm security : ℕ) (r : Result (Unit {0}) Refusal) → Acted (enrol_act account firm security) w.book.ledger.table b.ledger.table r → Call w (with_book w b)
    offers : (b : Book) (place security units rate commission : ℕ) (r : Result (Unit {0}) Refusal) → Acted (offer_act place security units rate commission) w.book.ledger.table b.ledger.table r → Call w (with_book w b)
    withdraws : (b : Book) (place : ℕ) (r : Result (ℕ × ℕ) Refusal) → Acted (withdraw_act place) w.book.ledger.table b.ledger.table r → Call w (with_book w b)
    applies : (b : Book) (account units : ℕ) (r : Result ℕ Refusal) → Acted (apply_act account units) w.book.ledger.table b.ledger.table r → Call w (with_book w b)
    returns : (b : Book) (account units : ℕ) (r : Result ℕ Refusal) → Acted (return_act account units) w.book.ledger.table b.ledger.table r → Call w (with_book w b)
    deposits : (b : Book) (account cents : ℕ) (r : Result ℤ Refusal) → Acted (deposit_act account cents) w.book.ledger.table b.ledger.table r → Call w (with_book w b)

  -- calls one after another: each picks up book and shelves as the one before put them down
  pub data Calls : World P Q → World P Q → Type 0 where
    start : {w : World P Q} → Calls w w
    then : {w u : World P Q} (t : World P Q) → Calls w t → Call t u → Calls w u
