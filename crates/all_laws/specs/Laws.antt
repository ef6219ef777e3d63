-- The laws of the book, over every run of calls: however many, in any order, with any inputs.
use Rattle.std.specs.Prelude.{◌≡◌, ℕ, ◌+◌, ◌<◌, Bool, true, false, ◌⊎◌, pos, ◌+ℤ◌, ◌≤ℤ◌, ◌<ℤ◌, Ok, Decides, count_ones}
use Rattle.pledge.specs.Numbers.{Numbers}
use Rattle.bits.specs.Bit.{bit}
use Rattle.lending.specs.Sound.{account_places}
use Rattle.table.specs.Tables.{account_at, calling}
use Rattle.table.specs.Act.{Acted}
use Rattle.table.specs.Elevens.{eleven_act}
use Rattle.margin.specs.Margins.{cover_at, floor_at, target_at, units_of}
use Rattle.margin.specs.Notices.{ten_act}
use Rattle.book.specs.declared.book.Book.{Book}
use Rattle.book.specs.declared.examined.Examined.{Examined}
use Rattle.book.specs.declared.examined.Examined.TheVariants.{Met, Short}
use Rattle.book.specs.Shelves.{backing}
use Rattle.book.specs.Examinations.{Examination}
use Rattle.all_laws.specs.Worlds.{World, New}
use Rattle.all_laws.specs.Calls.{Calls}
use Rattle.all_laws.specs.Entries.{sum_over, earned, balance_at, all_places}

abbrev pub is_met : Examined → Bool
is_met Met = true
is_met (Short lack slip) = false

module _ {P Q : Type 0} (n : Numbers P) (m : Numbers Q) where
  -- the account at a place has units, owed or applied for
  abbrev pub HasUnits : World P Q → ℕ → Type 0
  HasUnits w k = 0 < units_of (account_at w.book.ledger.table k)

  -- its cover is below its floor, at its floor or above, at its target or above
  abbrev pub BelowFloor : World P Q → ℕ → Type 0
  BelowFloor w k = cover_at (backing n m w.shelves) w.book.ledger.table k <ℤ pos (floor_at w.book.ledger.table k)

  abbrev pub AtFloor : World P Q → ℕ → Type 0
  AtFloor w k = pos (floor_at w.book.ledger.table k) ≤ℤ cover_at (backing n m w.shelves) w.book.ledger.table k

  abbrev pub AtTarget : World P Q → ℕ → Type 0
  AtTarget w k = pos (target_at w.book.ledger.table k) ≤ℤ cover_at (backing n m w.shelves) w.book.ledger.table k

  -- what a run adds up to
  pub record AddsUp {w u : World P Q} (run : Calls n m w u) : Type 0 where
    -- at each account place: deposits and yields are fees, costs, refunds and what is there
    pub sum : (k : ℕ) → k < account_places →
        (pos (sum_over n m (λ e. e.deposit k) run + sum_over n m (λ e. e.yield k) run)
        ≡ (pos (sum_over n m (λ e. e.fee k) run + sum_over n m (λ e. e.cost k) run + sum_over n m (λ e. e.refund k) run) +ℤ balance_at u.book.ledger.table k))
    -- all fees were paid to lenders and brokers, or are still owed to them
    pub earnings : all_places (λ k. sum_over n m (λ e. e.fee k) run) ≡ sum_over n m (λ e. e.paid) run + earned u.book.ledger.table
    -- every notice was met, was bought in, or is open
    pub count : sum_over n m (λ e. e.issued) run ≡ sum_over n m (λ e. e.met) run + sum_over n m (λ e. e.bought) run + count_ones u.book.ledger.table.notices

  pub record Laws {w u : World P Q} (run : Calls n m w u) : Type 0 where
    pub adds_up : AddsUp run
    -- a ten that is accepted next gives account k a notice exactly where it has units and cover below its floor
    pub marked : (b : Book) (given : ℕ) → Acted (ten_act (backing n m u.shelves)) u.book.ledger.table b.ledger.table (Ok given) →
        (k : ℕ) → k < account_places → Decides (bit b.ledger.table.notices k) (HasUnits u k × BelowFloor u k)
    -- an examine that is accepted next finds the notice met exactly where cover is at the target or above
    pub found_met : (b : Book) (account : ℕ) (found : Examined) → Examination (backing n m u.shelves) account u.book.ledger.table b.ledger.table (Ok found) →
        Decides (is_met found) (AtTarget u account)
    -- in the calling hour an account with units has an open notice, or cover at its floor or above
    pub watched : (k : ℕ) → k < account_places → calling u.book.ledger.table.hour ≡ true → HasUnits u k →
        (bit u.book.ledger.table.notices k ≡ true) ⊎ AtFloor u k
    -- where an eleven is accepted next, no account with units has cover below its floor
    pub clear_at_eleven : (b : Book) (answer : ℕ × ℕ) → Acted eleven_act u.book.ledger.table b.ledger.table (Ok answer) →
        (k : ℕ) → k < account_places → HasUnits u k → AtFloor u k

  -- of every run from a new world
  abbrev pub BookLaws : Type 0
  BookLaws = (w u : World P Q) → New w → (run : Calls n m w u) → Laws run
