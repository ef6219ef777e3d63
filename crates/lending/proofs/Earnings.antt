-- The offers earn, one after another.
use Rattle.std.proofs.Common.{◌≡◌, ℕ, ◌*◌, ◌≤◌, List, get_or, Option, arith}
use Rattle.sums.specs.Below.{below}
use Rattle.sums.proofs.Sums.{below_most}
use Rattle.lending.specs.declared.offer.Offer.{Offer}
use Rattle.lending.specs.Measures.{top_units}
use Rattle.lending.specs.Sound.{offer_places, top_fee, SoundOffers}
use Rattle.lending.specs.Lending.{at, lent}
use Rattle.lending.specs.Steps.{earns_in}
use Rattle.lending.proofs.Bounds.{earns_in_most}
use Rattle.lending.proofs.Passes.{Passed}

-- an offer after it earned
abbrev pub earn_at : List ℕ → ℕ → Offer → Offer
earn_at given k o = lent o (get_or given k 0)

-- the offers below place i have earned
pub record Earning (xs : List (Option Offer)) (given : List ℕ) (ys : List (Option Offer)) (earned : List ℕ) (i : ℕ) : Type 0 where
  pub earned_is : (s : ℕ) → get_or earned s 0 ≡ below i (λ k. earns_in s (at xs k) (get_or given k 0))
  pub passed : Passed (earn_at given) xs ys i

-- what the offers of a security earn is no more than the most for each place
pub earned_room : (elevens : ℕ) (xs : List (Option Offer)) (given : List ℕ) → SoundOffers elevens xs → ((k : ℕ) → get_or given k 0 ≤ top_units) →
    (s n : ℕ) → n ≤ offer_places → below n (λ k. earns_in s (at xs k) (get_or given k 0)) ≤ offer_places * top_fee
earned_room elevens xs given h most s n l =
    omega (arith, below_most n top_fee (λ k. earns_in s (at xs k) (get_or given k 0)) (λ k m. earns_in_most elevens s (at xs k) (get_or given k 0) (h k) (most k)))
