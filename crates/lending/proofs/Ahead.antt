-- The order of the offers: those of a security give the need, or all that they have.
use Rattle.std.proofs.Common.{◌≡◌, ℕ, zero, suc, ◌+◌, ◌-◌, ◌<◌, ◌≤◌, min, Bool, true, false, cond, ◌⊎◌, List, length, Option, ap, inl, inr, arith}
use Rattle.std.proofs.lemmas.Bool.{cases_lt, cases_Bool}
use Rattle.std.proofs.lemmas.Bool.Decides.{nat_tests}
use Rattle.sums.specs.Below.{below}
use Rattle.sums.proofs.Sums.{below_same, below_gap, below_single, below_none, below_added}
use Rattle.lending.specs.declared.offer.Offer.{Offer}
use Rattle.lending.specs.Lending.{at, offered_in, rate_of, sooner, before, ahead_of, gives}

sooner_self : (e i : ℕ) → sooner e i e i ≡ false
sooner_self e i = grind (arith, nat_tests)

sooner_trans : (e i f j g k : ℕ) → sooner e i f j ≡ true → sooner f j g k ≡ true → sooner e i g k ≡ true
sooner_trans e i f j g k p q = grind (arith, nat_tests)

pub sooner_total : (e i f j : ℕ) → (i ≡ j → ⊥) → sooner e i f j ≡ false → sooner f j e i ≡ true
sooner_total e i f j n p = grind (arith, nat_tests)

cond_le : (a b : Bool) (v : ℕ) → (a ≡ true → b ≡ true) → cond a v 0 ≤ cond b v 0
cond_le a b v h = grind (arith, nat_tests)

cond_under : (a : Bool) (v : ℕ) → cond a v 0 ≤ v
cond_under a v = grind (arith, nat_tests)

-- what all offers of a security have
abbrev pub offered_all : List (Option Offer) → ℕ → ℕ
offered_all os s = below (length os) (λ k. offered_in s (at os k))

module _ (os : List (Option Offer)) (s : ℕ) where
  before_self : (i : ℕ) → before os s i i ≡ 0
  before_self i = ap (λ b. cond b (offered_in s (at os i)) 0) (sooner_self (rate_of (at os i)) i)

  -- what is ahead of j holds all that is ahead of an earlier i, and i itself
  ahead_past : (i j : ℕ) → i < length os → sooner (rate_of (at os i)) i (rate_of (at os j)) j ≡ true → ahead_of os s i + offered_in s (at os i) ≤ ahead_of os s j
  ahead_past i j l p =
      below_gap (length os) i (offered_in s (at os i)) (before os s i) (before os s j) l
      (λ k m. cond_le (sooner (rate_of (at os k)) k (rate_of (at os i)) i) (sooner (rate_of (at os k)) k (rate_of (at os j)) j) (offered_in s (at os k))
      (λ q. sooner_trans (rate_of (at os k)) k (rate_of (at os i)) i (rate_of (at os j)) j q p))
      (omega (arith, before_self i, ap (λ b. cond b (offered_in s (at os i)) 0) p))

  ahead_within : (i : ℕ) → i < length os → ahead_of os s i + offered_in s (at os i) ≤ offered_all os s
  ahead_within i l =
      below_gap (length os) i (offered_in s (at os i)) (before os s i) (λ k. offered_in s (at os k)) l
      (λ k m. cond_under (sooner (rate_of (at os k)) k (rate_of (at os i)) i) (offered_in s (at os k)))
      (omega (arith, before_self i))

  -- of two places one is past the other
  apart : (i j : ℕ) → i < length os → j < length os → (i ≡ j → ⊥) →
      (ahead_of os s i + offered_in s (at os i) ≤ ahead_of os s j) ⊎ (ahead_of os s j + offered_in s (at os j) ≤ ahead_of os s i)
  apart i j l m n =
      elim (cases_Bool (sooner (rate_of (at os i)) i (rate_of (at os j)) j)) [
        | inl t ↦ inl (ahead_past i j l t)
        | inr f ↦ inr (ahead_past j i m (sooner_total (rate_of (at os i)) i (rate_of (at os j)) j n f))
      ]

-- what u units past a give more, where the need is one unit more
abbrev gain : ℕ → ℕ → ℕ → ℕ
gain u a q = min u (suc q - a) - min u (q - a)

gain_one : (u a q : ℕ) → (gain u a q ≤ 1) × (min u (suc q - a) ≡ min u (q - a) + gain u a q)
gain_one u a q = (omega arith, omega arith)

gain_apart : (u a v b q : ℕ) → (a + u ≤ b) ⊎ (b + v ≤ a) → 0 < gain u a q → gain v b q ≡ 0
gain_apart u a v b q (inl h) g = omega arith
gain_apart u a v b q (inr h) g = omega arith

module _ (os : List (Option Offer)) (s : ℕ) where
  -- the units that the offers give to a need of q
  abbrev given : ℕ → ℕ
  given q = below (length os) (gives os s q)

  -- what place k gives more to a need of one unit more
  abbrev more_at : ℕ → ℕ → ℕ
  more_at q k = gain (offered_in s (at os k)) (ahead_of os s k) q

  given_more : (q : ℕ) → given (suc q) ≤ given q + 1
  given_more q =
      let one : below (length os) (more_at q) ≤ 1 =
      below_single (length os) (more_at q)
      (λ k l. (gain_one (offered_in s (at os k)) (ahead_of os s k) q).0)
      (λ j k l m h. gain_apart (offered_in s (at os k)) (ahead_of os s k) (offered_in s (at os j)) (ahead_of os s j) q (apart os s k j m (omega arith) (omega arith)) h) in
      let same : given (suc q) ≡ below (length os) (λ k. gives os s q k + more_at q k) =
      below_same (length os) (gives os s (suc q)) (λ k. gives os s q k + more_at q k) (λ k l. (gain_one (offered_in s (at os k)) (ahead_of os s k) q).1) in
      omega (arith, below_added (length os) (gives os s q) (more_at q))

  given_steps : (q m : ℕ) → given (q + m) ≤ given q + m
  given_steps q zero = let e : q + 0 ≡ q = omega arith in omega (arith, ap given e)
  given_steps q (suc m) = let e : q + suc m ≡ suc (q + m) = omega arith in omega (arith, ap given e, given_steps q m, given_more (q + m))

  given_all : (q : ℕ) → offered_all os s ≤ q → given q ≡ offered_all os s
  given_all q l = below_same (length os) (gives os s q) (λ k. offered_in s (at os k)) (λ k m. omega (arith, ahead_within os s k m))

  given_none : given 0 ≡ 0
  given_none = below_none (length os) (gives os s 0) (λ k l. omega arith)

  -- the offers of a security give the need, or all that they have
  pub given_is : (q : ℕ) → given q ≡ min q (offered_all os s)
  given_is q =
      elim (cases_lt q (offered_all os s)) [
        | inl l ↦
            omega (arith, given_all (q + (offered_all os s - q)) (omega arith), given_steps q (offered_all os s - q), given_steps 0 q, given_none, ap given (zero_plus q))
        | inr l ↦ omega (arith, given_all q l)
      ]
    where
      zero_plus : (n : ℕ) → 0 + n ≡ n
      zero_plus n = omega arith
