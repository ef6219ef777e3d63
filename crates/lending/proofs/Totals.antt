-- What the offers of a security earn, and that all fees are all earnings.
use Rattle.std.proofs.Common.{◌≡◌, ℕ, zero, suc, ◌-◌, ◌*◌, ◌<◌, ◌≤◌, List, length, Some, None, Option, sym, refl, ap, ◌∙◌, inl, inr, arith}
use Rattle.std.proofs.lemmas.Bool.{cases_eq}
use Rattle.std.proofs.lemmas.Bool.Decides.{nat_tests}
use Rattle.sums.specs.Below.{below}
use Rattle.sums.proofs.Sums.{below_same, below_none, below_only, below_swap}
use Rattle.lending.specs.declared.account.Account.{Account}
use Rattle.lending.specs.declared.offer.Offer.{Offer}
use Rattle.lending.specs.Measures.{shares, top_units}
use Rattle.lending.specs.Sound.{securities, top_rate, top_fee, SoundOffer, SoundAccounts, SoundOffers}
use Rattle.lending.specs.Lending.{at, units_in, units_below, need_of, offered_in, rate_of, gives, earns, share, fee_at}
use Rattle.lending.specs.Eleven.{earned_in, short_in, gives_at, own_given, own_earned, pays_at, own_fee, all_fees}
use Rattle.lending.specs.Steps.{earns_in}
use Rattle.lending.proofs.Ahead.{offered_all, given_is}
use Rattle.lending.proofs.Bounds.{units_most, offered_most, earns_most}
use Rattle.lending.proofs.Parts.{share_none, share_zero, share_up, share_all, share_step}

-- nothing given earns nothing
earns_none : (p : Option Offer) (n : ℕ) → n ≡ 0 → earns p n ≡ 0
earns_none p n e = ap (earns p) e ∙ zeroed (rate_of p)
  where
    zeroed : (r : ℕ) → shares * (0 * r) ≡ 0
    zeroed r = omega arith

offered_other : (s : ℕ) (o : Offer) → (s ≡ o.security → ⊥) → offered_in s (Some o) ≡ 0
offered_other s o n = grind (arith, nat_tests)

units_other : (s : ℕ) (a : Account) → (s ≡ a.security → ⊥) → units_in s (Some a) ≡ 0
units_other s a n = grind (arith, nat_tests)

-- one offer

module _ (os : List (Option Offer)) (need : ℕ → ℕ) (k : ℕ) where
  gives_none : (s : ℕ) (p : Option Offer) → at os k ≡ p → offered_in s p ≡ 0 → earns p (gives os s (need s) k) ≡ 0
  gives_none s p e z = let none : offered_in s (at os k) ≡ 0 = ap (offered_in s) e ∙ z in earns_none p (gives os s (need s) k) (omega arith)

  -- what an offer earns by all that it gives, it earns in its own security
  earns_own : (s : ℕ) (p : Option Offer) → at os k ≡ p → earns_in s p (gives_at os need k p) ≡ earns p (gives os s (need s) k)
  earns_own s None e = sym (gives_none s None e refl)
  earns_own s (Some o) e =
      elim (cases_eq s o.security) [
        | inl same ↦
            let own : earns_in o.security (Some o) (gives_at os need k (Some o)) ≡ earns (Some o) (gives os o.security (need o.security) k) = grind (arith, nat_tests) in
            ap (λ t. earns_in t (Some o) (gives_at os need k (Some o))) same ∙ own ∙ ap (λ t. earns (Some o) (gives os t (need t) k)) (sym same)
        | inr other ↦
            let none : earns_in s (Some o) (gives_at os need k (Some o)) ≡ 0 = grind (arith, nat_tests) in
            none ∙ sym (gives_none s (Some o) e (offered_other s o other))
      ]

  -- what it earns in each security is what it earns
  earns_each : (p : Option Offer) → at os k ≡ p → ((o : Offer) → p ≡ Some o → o.security < securities) →
      below securities (λ s. earns p (gives os s (need s) k)) ≡ earns p (gives_at os need k p)
  earns_each None e h = below_none securities (λ s. earns None (gives os s (need s) k)) (λ s l. gives_none s None e refl) ∙ sym (earns_none None 0 refl)
  earns_each (Some o) e h =
      below_only securities o.security (λ s. earns (Some o) (gives os s (need s) k)) (h o refl) (λ s other. gives_none s (Some o) e (offered_other s o other))

  -- it gives no more than it has
  pub gives_most : (elevens : ℕ) (p : Option Offer) → at os k ≡ p → ((o : Offer) → p ≡ Some o → SoundOffer elevens o) → gives_at os need k p ≤ top_units
  gives_most elevens None e h = omega arith
  gives_most elevens (Some o) e h = omega (arith, ap (offered_in o.security) e, offered_most elevens o.security (Some o) h)

-- the need asked of the offers in two ways
pub gives_alike : (os : List (Option Offer)) (need need' : ℕ → ℕ) → ((s : ℕ) → need s ≡ need' s) → (k : ℕ) (p : Option Offer) → gives_at os need k p ≡ gives_at os need' k p
gives_alike os need need' h k None = refl
gives_alike os need need' h k (Some o) = ap (λ q. gives os o.security q k) (h o.security)

-- the fees asked of the accounts in two ways
pub pays_alike : (xs : List (Option Account)) (earned earned' : ℕ → ℕ) → ((s : ℕ) → earned s ≡ earned' s) → (k : ℕ) (p : Option Account) → pays_at xs earned k p ≡ pays_at xs earned' k p
pays_alike xs earned earned' h k None = refl
pays_alike xs earned earned' h k (Some a) = ap (λ f. fee_at xs a.security f k) (h a.security)

-- one security

module _ (xs : List (Option Account)) (os : List (Option Offer)) where
  pub earned_is : (given : ℕ → ℕ) → ((k : ℕ) → given k ≡ own_given xs os k) → (s : ℕ) → below (length os) (λ k. earns_in s (at os k) (given k)) ≡ earned_in xs os s
  earned_is given h s =
      below_same (length os) (λ k. earns_in s (at os k) (given k)) (λ k. earns (at os k) (gives os s (need_of xs s) k))
      (λ k l. ap (earns_in s (at os k)) (h k) ∙ earns_own os (need_of xs) k s (at os k) refl)

  -- the units that no offer gives are those beyond all that is offered
  pub short_is : (s : ℕ) → need_of xs s - offered_all os s ≡ short_in xs os s
  short_is s = omega (arith, given_is os s (need_of xs s))

  -- the fees of a security are at most the highest rate for each share that it needs
  pub earned_most : (elevens : ℕ) → SoundOffers elevens os → (s : ℕ) → earned_in xs os s ≤ shares * top_rate * need_of xs s
  earned_most elevens h s = omega (arith, each (length os), given_is os s (need_of xs s))
    where
      each : (n : ℕ) → below n (λ k. earns (at os k) (gives os s (need_of xs s) k)) ≤ shares * top_rate * below n (gives os s (need_of xs s))
      each zero = omega arith
      each (suc n) = omega (arith, each n, earns_most elevens (at os n) (gives os s (need_of xs s) n) (h n))

  -- the fees of the accounts below a place are the part of their units
  fees_below : (s f n : ℕ) → below n (fee_at xs s f) ≡ share f (units_below xs s n) (need_of xs s)
  fees_below s f zero = sym (share_zero f (need_of xs s))
  fees_below s f (suc n) = omega (arith, fees_below s f n, share_up f (units_below xs s n) (units_below xs s (suc n)) (need_of xs s) (omega arith))

  earned_none : (s : ℕ) → need_of xs s ≡ 0 → earned_in xs os s ≡ 0
  earned_none s e = below_none (length os) (λ k. earns (at os k) (gives os s (need_of xs s) k)) (λ k l. earns_none (at os k) (gives os s (need_of xs s) k) (omega arith))

  -- the accounts of a security pay what its offers earn
  fees_in : (s : ℕ) → below (length xs) (fee_at xs s (earned_in xs os s)) ≡ earned_in xs os s
  fees_in s =
      fees_below s (earned_in xs os s) (length xs)
      ∙ elim (cases_eq (need_of xs s) 0) [
        | inl e ↦ share_none (earned_in xs os s) (need_of xs s) (need_of xs s) e ∙ sym (earned_none s e)
        | inr n ↦ share_all (earned_in xs os s) (need_of xs s) (omega (arith, n))
      ]

  -- one account

  fee_none : (s f k : ℕ) → units_in s (at xs k) ≡ 0 → fee_at xs s f k ≡ 0
  fee_none s f k e =
      let same : units_below xs s (suc k) ≡ units_below xs s k = omega arith in
      omega (arith, ap (λ n. share f n (need_of xs s)) same)

  fee_each : (k : ℕ) (p : Option Account) → at xs k ≡ p → ((a : Account) → p ≡ Some a → a.security < securities) →
      below securities (λ s. fee_at xs s (earned_in xs os s) k) ≡ pays_at xs (earned_in xs os) k p
  fee_each k None e h = below_none securities (λ s. fee_at xs s (earned_in xs os s) k) (λ s l. fee_none s (earned_in xs os s) k (ap (units_in s) e))
  fee_each k (Some a) e h =
      below_only securities a.security (λ s. fee_at xs s (earned_in xs os s) k) (h a refl)
      (λ s other. fee_none s (earned_in xs os s) k (ap (units_in s) e ∙ units_other s a other))

  -- no account pays more than the most at one eleven
  pub fee_most : (elevens : ℕ) → SoundAccounts elevens xs → SoundOffers elevens os → (k : ℕ) → own_fee xs os k ≤ top_fee
  fee_most elevens hx ho k = at_most (at xs k)
    where
      at_most : (p : Option Account) → pays_at xs (earned_in xs os) k p ≤ top_fee
      at_most None = omega arith
      at_most (Some a) =
          omega (
            arith,
            share_step (shares * top_rate) (earned_in xs os a.security) (units_below xs a.security k) (units_in a.security (at xs k)) (need_of xs a.security) (earned_most elevens ho a.security),
            units_most elevens a.security (at xs k) (hx k),
          )

  -- the fees of all accounts are what eleven answers
  pub fees_are : (elevens : ℕ) → SoundAccounts elevens xs → below (length xs) (own_fee xs os) ≡ all_fees xs os
  fees_are elevens h =
      below_same (length xs) (own_fee xs os) (λ k. below securities (λ s. fee_at xs s (earned_in xs os s) k)) (λ k l. sym (fee_each k (at xs k) refl (λ a e. (h k a e).0.0)))
      ∙ below_swap (length xs) securities (λ k s. fee_at xs s (earned_in xs os s) k)
      ∙ below_same securities (λ s. below (length xs) (fee_at xs s (earned_in xs os s))) (earned_in xs os) (λ s l. fees_in s)

  -- and so is what all offers earn
  pub earnings_are : (elevens : ℕ) → SoundOffers elevens os → below (length os) (own_earned xs os) ≡ all_fees xs os
  earnings_are elevens h =
      below_same (length os) (own_earned xs os) (λ k. below securities (λ s. earns (at os k) (gives os s (need_of xs s) k))) (λ k l. sym (earns_each os (need_of xs) k (at os k) refl (λ o e. (h k o e).0.0)))
      ∙ below_swap (length os) securities (λ k s. earns (at os k) (gives os s (need_of xs s) k))
