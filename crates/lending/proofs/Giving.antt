-- The offers give, one after another in their order.
use Rattle.std.proofs.Common.{◌≡◌, ℕ, ◌+◌, ◌-◌, ◌<◌, List, length, get_or, set, Some, None, Option, sym, refl, ap, ◌∙◌, subst, inl, inr, arith, length-set}
use Rattle.std.proofs.lemmas.List.{get_or_past}
use Rattle.std.proofs.lemmas.Grind.{common_steps}
use Rattle.std.proofs.lemmas.Bool.{cases_eq, cases_lt}
use Rattle.std.proofs.lemmas.Bool.Decides.{nat_tests}
use Rattle.sums.specs.Below.{below}
use Rattle.sums.proofs.Sums.{below_more}
use Rattle.lending.specs.declared.offer.Offer.{Offer}
use Rattle.lending.specs.declared.order.Rank.{Rank}
use Rattle.lending.specs.Sound.{offer_places}
use Rattle.lending.specs.Lending.{at, offered_in, ahead_of}
use Rattle.lending.specs.Eleven.{gives_at}
use Rattle.lending.specs.Steps.{place_at, Ordered, takes}
use Rattle.lending.proofs.Ranks.{place_inside, comes, ahead_is, all_is}

-- the first j places in the order of the ranks have given to the needs
pub record Gave (os : List (Option Offer)) (needs : List ℕ) (ranks : List Rank) (given left : List ℕ) (j : ℕ) : Type 0 where
  pub long : length given ≡ offer_places
  pub left_is : (s : ℕ) → get_or left s 0 ≡ get_or needs s 0 - below j (λ m. offered_in s (at os (place_at ranks m)))
  pub given_is : (m : ℕ) → m < j → get_or given (place_at ranks m) 0 ≡ gives_at os (λ s. get_or needs s 0) (place_at ranks m) (at os (place_at ranks m))

own_offered : (o : Offer) → offered_in o.security (Some o) ≡ o.units
own_offered o = grind (arith, nat_tests)

-- what an offer takes, where those ahead of it have given, is what it gives
takes_is : (os : List (Option Offer)) (needs left : List ℕ) (i : ℕ) (p : Option Offer) → at os i ≡ p →
    ((s : ℕ) → get_or left s 0 ≡ get_or needs s 0 - ahead_of os s i) → takes left p ≡ gives_at os (λ s. get_or needs s 0) i p
takes_is os needs left i None e h = refl
takes_is os needs left i (Some o) e h =
    let units : offered_in o.security (at os i) ≡ o.units = ap (offered_in o.security) e ∙ own_offered o in
    let rest = h o.security in
    cc

module _ (os : List (Option Offer)) (needs : List ℕ) (ranks : List Rank) (o : Ordered os ranks) (size : length os ≡ offer_places) where
  pub step : (given left : List ℕ) (j v : ℕ) (left' : List ℕ) → Gave os needs ranks given left j → j < length os →
      v ≡ takes left (at os (place_at ranks j)) →
      ((s : ℕ) → get_or left' s 0 ≡ get_or left s 0 - offered_in s (at os (place_at ranks j))) →
      Gave os needs ranks (set given (place_at ranks j) v) left' (j + 1)
  step given left j v left' h l e less =
      let own : v ≡ gives_at os (λ s. get_or needs s 0) (place_at ranks j) (at os (place_at ranks j)) =
      e ∙ takes_is os needs left (place_at ranks j) (at os (place_at ranks j)) refl (λ s. h.left_is s ∙ ap (λ n. get_or needs s 0 - n) (ahead_is os ranks o s j l)) in
      record {
        long = length-set given (place_at ranks j) v ∙ h.long;
        left_is = λ s. omega (arith, less s, h.left_is s, below_more j (λ m. offered_in s (at os (place_at ranks m))));
        given_is = λ m k. elim (cases_eq m j) [
          | inl same ↦ grind (arith, common_steps, own, h.long, place_inside os ranks o j l)
          | inr other ↦ grind (arith, common_steps, own, h.long, h.given_is m (omega (arith, other)), place_inside os ranks o j l)
        ];
      }

  pub gave_all : (given left : List ℕ) → Gave os needs ranks given left (length os) → (k : ℕ) → get_or given k 0 ≡ gives_at os (λ s. get_or needs s 0) k (at os k)
  gave_all given left h k =
      elim (cases_lt k (length os)) [
        | inl l ↦
            let found = comes os ranks o k l in
            subst (λ (i : ℕ). get_or given i 0 ≡ gives_at os (λ s. get_or needs s 0) i (at os i)) found.2 (h.given_is found.0 found.1)
        | inr l ↦ get_or_past given k 0 (omega (arith, h.long)) ∙ sym (ap (gives_at os (λ s. get_or needs s 0) k) (get_or_past os k None l))
      ]

  pub left_all : (given left : List ℕ) → Gave os needs ranks given left (length os) → (s : ℕ) → get_or left s 0 ≡ get_or needs s 0 - below (length os) (λ k. offered_in s (at os k))
  left_all given left h s = h.left_is s ∙ ap (λ n. get_or needs s 0 - n) (all_is os ranks o s)
