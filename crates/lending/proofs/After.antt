-- The tables after eleven, place by place.
use Rattle.std.proofs.Common.{◌≡◌, ℕ, ◌+◌, ◌≤◌, cond, List, map, length, ℤ, pos, ◌-ℤ◌, is_some, Some, None, Option, sym, refl, ap, ◌∙◌, subst, arith}
use Rattle.std.proofs.lemmas.List.FromFn.{length-map-range_with_len, get_or-map-range_with_len, fill_by_all}
use Rattle.std.proofs.lemmas.List.{get_or_past}
use Rattle.std.proofs.lemmas.Grind.{common_steps}
use Rattle.std.proofs.lemmas.Int.{ints}
use Rattle.std.specs.List.{range_with_len}
use Rattle.std.specs.Option.{option_map}
use Rattle.sums.specs.Below.{below}
use Rattle.sums.proofs.Sums.{below_same, below_added}
use Rattle.lending.specs.declared.account.Account.{Account}
use Rattle.lending.specs.declared.offer.Offer.{Offer}
use Rattle.lending.specs.Sound.{top_fee, SoundAccount, SoundOffer, SoundAccounts, SoundOffers}
use Rattle.lending.specs.Lending.{at, need_of, charged, lent, earns}
use Rattle.lending.specs.Eleven.{earned_in, own_given, own_earned, pays_at, own_fee, all_fees, account_after, offer_after, accounts_after, offers_after}
use Rattle.lending.proofs.Bounds.{lent_most, parts_whole}
use Rattle.lending.proofs.Totals.{gives_most, fee_most, earnings_are}

-- what is sound after so many elevens is sound after more
pub accounts_later : (m n : ℕ) → m ≤ n → (xs : List (Option Account)) → SoundAccounts m xs → SoundAccounts n xs
accounts_later m n l xs h k a e = ((h k a e).0, (omega (arith, ints, (h k a e).1.0), (h k a e).1.1))

pub offers_later : (m n : ℕ) → m ≤ n → (os : List (Option Offer)) → SoundOffers m os → SoundOffers n os
offers_later m n l os h k o e = ((h k o e).0, omega (arith, (h k o e).1))

-- a table that is made from another, each place by its own g
module _ {X : Type 0} (g : ℕ → X → X) (xs : List (Option X)) where
  abbrev made : ℕ → Option X
  made k = option_map (g k) (at xs k)

  made_at : (k : ℕ) → at (map made (range_with_len 0 (length xs))) k ≡ option_map (g k) (at xs k)
  made_at k =
      grind (arith, common_steps, length-map-range_with_len made 0 (length xs), get_or-map-range_with_len made 0 (length xs) k k None, get_or_past xs k None)

taken_mapped : {X : Type 0} (g : X → X) (p : Option X) → is_some (option_map g p) ≡ is_some p
taken_mapped g None = refl
taken_mapped g (Some x) = refl

some_from : {X : Type 0} (g : X → X) (p : Option X) (y : X) → option_map g p ≡ Some y → (x : X) × (p ≡ Some x) × (g x ≡ y)
some_from g None y e = let z : ◌≡◌ {A = ℕ} 0 1 = cc in absurd (omega arith)
some_from g (Some x) y e = (x, refl, cc)

module _ (xs : List (Option Account)) (os : List (Option Offer)) where
  -- what stands at a place after eleven
  pub accounts_at : (k : ℕ) → at (accounts_after xs os) k ≡ account_after xs os k
  unfolding accounts_after
  accounts_at k = made_at (λ k a. charged a (own_fee xs os k)) xs k

  pub offers_at : (k : ℕ) → at (offers_after xs os) k ≡ offer_after xs os k
  unfolding offers_after
  offers_at k = made_at (λ k o. lent o (own_given xs os k)) os k

  -- the tables keep their lengths
  pub accounts_long : length (accounts_after xs os) ≡ length xs
  unfolding accounts_after
  accounts_long = length-map-range_with_len (account_after xs os) 0 (length xs)

  pub offers_long : length (offers_after xs os) ≡ length os
  unfolding offers_after
  offers_long = length-map-range_with_len (offer_after xs os) 0 (length os)

  -- a table that is right at every place is the table after eleven
  pub accounts_are : (ys : List (Option Account)) → length ys ≡ length xs → ((k : ℕ) → at ys k ≡ account_after xs os k) → ys ≡ accounts_after xs os
  unfolding accounts_after
  accounts_are ys l h = fill_by_all (account_after xs os) ys (length xs) None l (λ k m. h k)

  pub offers_are : (ys : List (Option Offer)) → length ys ≡ length os → ((k : ℕ) → at ys k ≡ offer_after xs os k) → ys ≡ offers_after xs os
  unfolding offers_after
  offers_are ys l h = fill_by_all (offer_after xs os) ys (length os) None l (λ k m. h k)

  -- an account stands where one stood
  pub accounts_taken : (k : ℕ) → is_some (at (accounts_after xs os) k) ≡ is_some (at xs k)
  accounts_taken k = ap is_some (accounts_at k) ∙ taken_mapped (λ a. charged a (own_fee xs os k)) (at xs k)

  -- the accounts are sound for one eleven more
  pub accounts_sound : (elevens : ℕ) → SoundAccounts elevens xs → SoundOffers elevens os → SoundAccounts (elevens + 1) (accounts_after xs os)
  accounts_sound elevens hx ho k a e =
      let was = some_from (λ a. charged a (own_fee xs os k)) (at xs k) a (sym (accounts_at k) ∙ e) in
      subst (SoundAccount (elevens + 1)) was.2 (charged_sound was.0 (hx k was.0 was.1) (fee_most xs os elevens hx ho k))
    where
      charged_sound : (b : Account) → SoundAccount elevens b → own_fee xs os k ≤ top_fee → SoundAccount (elevens + 1) (charged b (own_fee xs os k))
      charged_sound b h l =
          let owed : b.owed + b.applied + 0 ≡ b.owed + b.applied = omega arith in (
            (h.0.0, omega (arith, h.0.1), subst (λ (n : ℕ). cond b.barred n 0 ≤ 0) (sym owed) h.0.2),
            (omega (arith, ints, h.1.0), omega (arith, ints, h.1.1)),
          )

  -- and so are the offers
  pub offers_sound : (elevens : ℕ) → SoundOffers elevens os → SoundOffers (elevens + 1) (offers_after xs os)
  offers_sound elevens h k o e =
      let was = some_from (λ o. lent o (own_given xs os k)) (at os k) o (sym (offers_at k) ∙ e) in
      let sound : SoundOffer elevens was.0 = h k was.0 was.1 in
      let most = lent_most elevens (own_given xs os k) was.0 sound (gives_most os (need_of xs) k elevens (at os k) refl (h k)) in
      subst (SoundOffer (elevens + 1)) was.2 (sound.0, most)

  -- a balance, by whatever word for it, is less by the fee
  pub balance_less : (balance : Option Account → ℤ) → balance None ≡ pos 0 → ((a : Account) → balance (Some a) ≡ a.balance) →
      (k : ℕ) → balance (at (accounts_after xs os) k) ≡ balance (at xs k) -ℤ pos (own_fee xs os k)
  balance_less balance none some k = ap balance (accounts_at k) ∙ less (at xs k)
    where
      less : (p : Option Account) → balance (option_map (λ a. charged a (pays_at xs (earned_in xs os) k p)) p) ≡ balance p -ℤ pos (pays_at xs (earned_in xs os) k p)
      less None = omega (arith, ints, none)
      less (Some a) = some (charged a (pays_at xs (earned_in xs os) k (Some a))) ∙ sym (ap (λ z. z -ℤ pos (pays_at xs (earned_in xs os) k (Some a))) (some a))

  -- what is unpaid, by whatever word for it, is more by what the offer earns
  pub unpaid_more : (unpaid : Option Offer → ℕ) → unpaid None ≡ 0 → ((o : Offer) → unpaid (Some o) ≡ o.lender + o.broker) →
      (elevens : ℕ) → SoundOffers elevens os → (k : ℕ) → unpaid (at (offers_after xs os) k) ≡ unpaid (at os k) + own_earned xs os k
  unpaid_more unpaid none some elevens h k = ap unpaid (offers_at k) ∙ more (at os k) (own_given xs os k) (h k)
    where
      more : (p : Option Offer) (n : ℕ) → ((o : Offer) → p ≡ Some o → SoundOffer elevens o) → unpaid (option_map (λ o. lent o n) p) ≡ unpaid p + earns p n
      more None n sound = omega (arith, none)
      more (Some o) n sound = omega (arith, some (lent o n), some o, parts_whole n o.rate o.commission (sound o refl).0.3)

  -- what is unpaid to all is more by all fees
  pub unpaid_all : (unpaid : Option Offer → ℕ) → unpaid None ≡ 0 → ((o : Offer) → unpaid (Some o) ≡ o.lender + o.broker) →
      (elevens : ℕ) → SoundOffers elevens os →
      below (length (offers_after xs os)) (λ k. unpaid (at (offers_after xs os) k)) ≡ below (length os) (λ k. unpaid (at os k)) + all_fees xs os
  unpaid_all unpaid none some elevens h =
      ap (λ n. below n (λ k. unpaid (at (offers_after xs os) k))) offers_long
      ∙ below_same (length os) (λ k. unpaid (at (offers_after xs os) k)) (λ k. unpaid (at os k) + own_earned xs os k) (λ k l. unpaid_more unpaid none some elevens h k)
      ∙ below_added (length os) (λ k. unpaid (at os k)) (own_earned xs os)
      ∙ ap (λ n. below (length os) (λ k. unpaid (at os k)) + n) (earnings_are xs os elevens h)
