-- What the rising ranks of the offers say of the places: each place comes once, after those that are ahead of it.
use Rattle.std.proofs.Common.{◌≡◌, ℕ, ◌<◌, ◌≤◌, Bool, true, cond, eqb, ltb, List, length, Option, sym, refl, ap, ◌∙◌, arith}
use Rattle.std.proofs.lemmas.Bool.{eqb-true, eq-eqb, ltb-true, lt-ltb}
use Rattle.std.proofs.lemmas.Bool.Decides.{nat_tests}
use Rattle.sums.specs.Below.{below}
use Rattle.sums.proofs.Sums.{below_none, below_same, below_cut, below_holds, below_holds_two, below_some, below_single}
use Rattle.lending.specs.declared.offer.Offer.{Offer}
use Rattle.lending.specs.declared.order.Rank.{Rank}
use Rattle.lending.specs.Lending.{at, offered_in, rate_of, sooner, before, ahead_of}
use Rattle.lending.specs.Steps.{rank_at, earlier, nth, place_at, Ordered}
use Rattle.lending.proofs.Ahead.{sooner_total}

abbrev one_at : ℕ → ℕ → ℕ
one_at p n = cond (eqb n p) 1 0

one_itself : (p : ℕ) → one_at p p ≡ 1
one_itself p = grind (arith, nat_tests)

one_equal : (p n : ℕ) → 0 < one_at p n → n ≡ p
one_equal p n h = grind (arith, nat_tests)

-- a number is below n once at most
one_once : (p n : ℕ) → below n (one_at p) ≤ 1
one_once p n = below_single n (one_at p) (λ k l. grind (arith, nat_tests)) (λ j k l m h. grind (arith, nat_tests))

passed : (b : Bool) → cond b 0 1 ≤ 0 → b ≡ true
passed b h = grind (arith, nat_tests)

module _ (os : List (Option Offer)) (ranks : List Rank) (o : Ordered os ranks) where
  -- a test that the rank of each place passes, each rank passes
  each : (test : Rank → Bool) → ((k : ℕ) → k < length os → test (rank_at os k) ≡ true) → (j : ℕ) → j < length os → test (nth ranks j) ≡ true
  each test all j l =
      passed (test (nth ranks j)) (omega (
        arith,
        below_holds (length os) j (λ m. cond (test (nth ranks m)) 0 1) l,
        o.same (λ r. cond (test r) 0 1),
        below_none (length os) (λ k. cond (test (rank_at os k)) 0 1) (λ k m. ap (λ b. cond b 0 1) (all k m)),
      ))

  pub place_inside : (j : ℕ) → j < length os → place_at ranks j < length os
  place_inside j l = ltb-true (place_at ranks j) (length os) (each (λ r. ltb r.place (length os)) (λ k m. lt-ltb k (length os) m) j l)

  rate_is : (j : ℕ) → j < length os → (nth ranks j).rate ≡ rate_of (at os (place_at ranks j))
  rate_is j l = eqb-true (nth ranks j).rate (rate_of (at os (place_at ranks j))) (each (λ r. eqb r.rate (rate_of (at os r.place))) (λ k m. eq-eqb (rate_of (at os k)) (rate_of (at os k)) refl) j l)

  -- every place comes
  pub comes : (k : ℕ) → k < length os → (j : ℕ) × (j < length os) × (place_at ranks j ≡ k)
  comes k l =
      let found = below_some (length os) (λ j. one_at k (place_at ranks j)) (omega (arith, o.same (λ r. one_at k r.place), below_holds (length os) k (one_at k) l, one_itself k)) in
      (found.0, found.1, one_equal k (place_at ranks found.0) found.2)

  -- no place comes twice
  apart : (m j : ℕ) → m < j → j < length os → place_at ranks j ≡ place_at ranks m → ⊥
  apart m j l k e =
      let p = place_at ranks j in
      omega (arith, one_once p (length os), o.same (λ r. one_at p r.place), below_holds_two (length os) m j (λ i. one_at p (place_at ranks i)) l k, one_itself p, ap (one_at p) e)

  -- what comes first is earlier
  rises : (m j : ℕ) → m < j → j < length os → earlier (nth ranks m) (nth ranks j) ≡ true
  rises m j l k =
      sooner_total (nth ranks j).rate (place_at ranks j) (nth ranks m).rate (place_at ranks m) (apart m j l k) (o.rising m j (omega arith) (omega (arith, o.long)))

  -- what came before j is what is ahead of its place
  pub ahead_is : (s j : ℕ) → j < length os → below j (λ m. offered_in s (at os (place_at ranks m))) ≡ ahead_of os s (place_at ranks j)
  ahead_is s j l =
      sym (below_same j (λ m. counted (nth ranks m)) (λ m. offered_in s (at os (place_at ranks m))) (λ m k. ap (λ b. cond b (offered_in s (at os (place_at ranks m))) 0) (rises m j k l)))
      ∙ sym (below_cut j (length os) (λ m. counted (nth ranks m)) (omega arith) (λ m k i. ap (λ b. cond b (offered_in s (at os (place_at ranks m))) 0) (o.rising j m k (omega (arith, o.long)))))
      ∙ o.same counted
      ∙ below_same (length os) (λ k. counted (rank_at os k)) (before os s (place_at ranks j))
      (λ k i. ap (λ e. cond (sooner (rate_of (at os k)) k e (place_at ranks j)) (offered_in s (at os k)) 0) (rate_is j l))
    where
      counted : Rank → ℕ
      counted r = cond (earlier r (nth ranks j)) (offered_in s (at os r.place)) 0

  -- all that comes is all that is offered
  pub all_is : (s : ℕ) → below (length os) (λ m. offered_in s (at os (place_at ranks m))) ≡ below (length os) (λ k. offered_in s (at os k))
  all_is s = o.same (λ r. offered_in s (at os r.place))
