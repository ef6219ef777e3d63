-- The laws, over every run.
use Rattle.std.proofs.Common.{◌≡◌, ℕ, zero, suc, ◌+◌, get_or, replicate, pos, None, refl, ap, ◌∙◌, arith}
use lib.Count.{ones}
use Rattle.std.proofs.lemmas.Int.{ints}
use Rattle.pledge.specs.Numbers.{Numbers}
use Rattle.sums.specs.Below.{below}
use Rattle.bits.proofs.Words.{ones_none}
use Rattle.lending.specs.Sound.{account_places}
use Rattle.table.specs.Accounts.{balance_of}
use Rattle.table.specs.Offers.{unpaid}
use Rattle.laws.specs.Worlds.{World, New}
use Rattle.laws.specs.Calls.{Calls, start, then}
use Rattle.laws.specs.Sums.{both, earned, balance_at, all_places, sum_over, charged}
use Rattle.laws.specs.Laws.{Laws}
use Rattle.laws.proofs.Places.{none_counted}
use Rattle.laws.proofs.Steps.{none_charged, moved}

none_there : (n k : ℕ) → balance_of (get_or (replicate n None) k None) ≡ pos 0
none_there zero k = refl
none_there (suc n) zero = refl
none_there (suc n) (suc k) = none_there n k

added_below : (n : ℕ) (f g : ℕ → ℕ) → below n (λ k. f k + g k) ≡ below n f + below n g
added_below zero f g = refl
added_below (suc n) f g = omega (arith, added_below n f g)

added : (f g : ℕ → ℕ) → all_places (λ k. f k + g k) ≡ all_places f + all_places g
unfolding all_places
added f g = added_below account_places f g

module _ {P Q : Type 0} (n : Numbers P) (m : Numbers Q) where
  pub laws : (w u : World P Q) → New w → (run : Calls n m w u) → Laws n m run
  laws w u new start = record {
    sum = λ k _.
        let none : balance_at w.book.ledger.table k ≡ pos 0 = ap (λ t. balance_at t k) new.blank ∙ none_there 64 k in
        omega (arith, ints, none);
    earnings =
        let none : earned w.book.ledger.table ≡ 0 = ap earned new.blank ∙ none_counted (λ o. both (unpaid o)) 256 refl in
        omega (arith, none, none_charged (λ _. 0) (λ _. refl));
    count = omega (arith, ap (λ t. ones t.notices) new.blank, ones_none);
  }
  laws w u new (then t run call) =
      let before = laws w t new run in
      let step = moved n m t u call in
      record {
        sum = λ k h. omega (arith, ints, before.sum k h, step.sum k);
        earnings = omega (arith, before.earnings, step.earnings, added (λ k. sum_over n m (charged n m k) run) (λ k. charged n m k t u call));
        count = omega (arith, before.count, step.count);
      }
