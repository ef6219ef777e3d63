-- The laws of the book, over every run of calls: however many, in any order, with any inputs.
use Rattle.std.specs.Prelude.{◌≡◌, ℕ, ◌+◌, ◌<◌, pos, ◌+ℤ◌, count_ones}
use Rattle.pledge.specs.Numbers.{Numbers}
use Rattle.lending.specs.Sound.{account_places}
use Rattle.laws.specs.Worlds.{World, New}
use Rattle.laws.specs.Calls.{Calls}
use Rattle.laws.specs.Sums.{deposited, yielded, charged, cost, refunded, paid_by, issued_by, met_by, bought_by, sum_over, earned, balance_at, all_places}

module _ {P Q : Type 0} (n : Numbers P) (m : Numbers Q) where
  pub record Laws {w u : World P Q} (run : Calls n m w u) : Type 0 where
    -- at each account place: deposits and yields are fees, costs, refunds and what is there
    pub sum : (k : ℕ) → k < account_places →
        (pos (sum_over n m (deposited n m k) run + sum_over n m (yielded n m k) run)
        ≡ (pos (sum_over n m (charged n m k) run + sum_over n m (cost n m k) run + sum_over n m (refunded n m k) run) +ℤ balance_at u.book.ledger.table k))
    -- all fees were paid to lenders and brokers, or are still owed to them
    pub earnings : all_places (λ k. sum_over n m (charged n m k) run) ≡ sum_over n m (paid_by n m) run + earned u.book.ledger.table
    -- every notice was met, was bought in, or is open
    pub count : sum_over n m (issued_by n m) run ≡ sum_over n m (met_by n m) run + sum_over n m (bought_by n m) run + count_ones u.book.ledger.table.notices

  -- of every run from a new world
  abbrev pub BookLaws : Type 0
  BookLaws = (w u : World P Q) → New w → (run : Calls n m w u) → Laws run
