-- How much one account or one offer can have, pay and earn.
use Rattle.std.proofs.Common.{◌≡◌, ℕ, ◌+◌, ◌-◌, ◌*◌, ◌≤◌, Some, None, Option, refl, ap, mul-le-mul, mul-le-mul_left, mul-add, arith}
use Rattle.std.proofs.lemmas.Bool.Decides.{nat_tests}
use Rattle.lending.specs.declared.account.Account.{Account}
use Rattle.lending.specs.declared.offer.Offer.{Offer}
use Rattle.lending.specs.Measures.{shares, top_units}
use Rattle.lending.specs.Sound.{top_rate, top_commission, top_fee, SoundAccount, SoundOffer}
use Rattle.lending.specs.Lending.{units_in, offered_in, rate_of, hundredth, earns, lent}
use Rattle.lending.specs.Steps.{earns_in}

pub units_most : (elevens s : ℕ) (p : Option Account) → ((a : Account) → p ≡ Some a → SoundAccount elevens a) → units_in s p ≤ top_units
units_most elevens s None h = omega arith
units_most elevens s (Some a) h = let most = (h a refl).0.1 in grind (arith, nat_tests)

pub offered_most : (elevens s : ℕ) (p : Option Offer) → ((o : Offer) → p ≡ Some o → SoundOffer elevens o) → offered_in s p ≤ top_units
offered_most elevens s None h = omega arith
offered_most elevens s (Some o) h = let most = (h o refl).0.1 in grind (arith, nat_tests)

pub rate_most : (elevens : ℕ) (p : Option Offer) → ((o : Offer) → p ≡ Some o → SoundOffer elevens o) → rate_of p ≤ top_rate
rate_most elevens None h = omega arith
rate_most elevens (Some o) h = (h o refl).0.2

-- so many units earn at most the highest rate for each share
pub earns_most : (elevens : ℕ) (p : Option Offer) (k : ℕ) → ((o : Offer) → p ≡ Some o → SoundOffer elevens o) → earns p k ≤ shares * top_rate * k
earns_most elevens p k h = omega (arith, mul-le-mul_left k (rate_most elevens p h))

pub earns_in_most : (elevens s : ℕ) (p : Option Offer) (k : ℕ) → ((o : Offer) → p ≡ Some o → SoundOffer elevens o) → k ≤ top_units → earns_in s p k ≤ top_fee
earns_in_most elevens s None k h l = omega arith
earns_in_most elevens s (Some o) k h l = let most = earns_most elevens (Some o) k h in grind (arith, nat_tests)

-- the lender's part and the broker's are the whole
pub parts_whole : (k rate commission : ℕ) → commission ≤ top_commission → hundredth k rate * (100 - commission) + hundredth k rate * commission ≡ shares * (k * rate)
parts_whole k rate commission l =
    let split = mul-add (hundredth k rate) (100 - commission) commission in
    let all : 100 - commission + commission ≡ 100 = omega arith in
    omega (arith, ap (λ n. hundredth k rate * n) all)

pub whole_most : (k rate : ℕ) → k ≤ top_units → rate ≤ top_rate → shares * (k * rate) ≤ top_fee
whole_most k rate l m = omega (arith, mul-le-mul l m)

-- what is unpaid after k units were given
pub lent_most : (elevens k : ℕ) (o : Offer) → SoundOffer elevens o → k ≤ top_units → (lent o k).lender + (lent o k).broker ≤ (elevens + 1) * top_fee
lent_most elevens k o h l = omega (arith, h.1, parts_whole k o.rate o.commission h.0.3, whole_most k o.rate l h.0.2)
