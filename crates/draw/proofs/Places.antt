-- What drawing does at one place.
use Rattle.std.proofs.Common.{◌≡◌, ℕ, ◌+◌, ◌-◌, ◌<◌, ◌≤◌, min, Bool, true, false, cond, eqb, ltb, List, length, Some, None, Option, sym, refl, ap, ◌∙◌, subst, inl, inr, arith}
use Rattle.std.proofs.lemmas.Bool.{cases_Bool, cases_lt, both_ways, cond-true, cond-false, cond_both, ltb-true, lt-ltb, eqb-true, ne_eqb, and_from, and_parts, and_left}
use Rattle.std.proofs.lemmas.List.{get_or_past}
use Rattle.pledge.specs.Limits.{Priced}
use Rattle.pledge.specs.Numbers.{Numbers, Rules, Drawn}
use Rattle.shelf.specs.Places.{at, counted}
use Rattle.shelf.specs.declared.held.Held.{Held}
use Rattle.draw.specs.Draws.{mine, expiry_at, can_pay, earlier, left_at, yields_at, reached, place_after, place_yields}

cond_le : (s : Bool) (u v : ℕ) → u ≤ v → cond s u 0 ≤ cond s v 0
cond_le true u v h = h
cond_le false u v h = omega arith

module _ {P : Type 0} where
  pub counted_none : (a : ℕ) (f : P → ℕ) (o : Option (Held P)) → mine a o ≡ false → counted a f o ≡ 0
  counted_none a f None m = refl
  counted_none a f (Some held) m = cond-false (eqb held.account a) (f held.pledge) 0 m

  -- a pledge is one account's
  pub mine_one : (a b : ℕ) (o : Option (Held P)) → mine a o ≡ true → (b ≡ a → ⊥) → mine b o ≡ false
  mine_one a b None m ne = refl
  mine_one a b (Some held) m ne = ne_eqb held.account b (λ e. ne (sym e ∙ eqb-true held.account a m))

  -- past the end of a shelf nothing is anyone's
  pub mine_within : (a : ℕ) (shelf : List (Option (Held P))) (k : ℕ) → mine a (at shelf k) ≡ true → k < length shelf
  mine_within a shelf k m =
      elim (cases_lt k (length shelf)) [
        | inl l ↦ l
        | inr l ↦ absurd (both_ways _ (ap (mine a) (get_or_past shelf k None l)) m)
      ]

  module _ (n : Numbers P) (ask day price : ℕ) where
    abbrev left : Option (Held P) → Option (Held P)
    left o = left_at n o ask day price

    left_mine : (a : ℕ) (o : Option (Held P)) → mine a (left o) ≡ mine a o
    left_mine a None = refl
    left_mine a (Some held) = refl

    left_le : (a : ℕ) (f : P → ℕ) → ((p : P) → f (n.left p ask day price) ≤ f p) → (o : Option (Held P)) → counted a f (left o) ≤ counted a f o
    left_le a f h None = omega arith
    left_le a f h (Some held) = cond_le (eqb held.account a) (f (n.left held.pledge ask day price)) (f held.pledge) (h held.pledge)

    module _ (draws : (p : P) → Drawn n p ask day price (n.yields p ask day price) (n.left p ask day price)) where
      left_expiry : (o : Option (Held P)) → expiry_at n (left o) ≡ expiry_at n o
      left_expiry None = refl
      left_expiry (Some held) = (draws held.pledge).expiry_stays

      module _ (account : ℕ) where
        abbrev can : Option (Held P) → ℕ
        can o = counted account (λ p. n.payable p day price) o

        left_falls : (o : Option (Held P)) → mine account o ≡ true → yields_at n o ask day price + can (left o) ≡ can o
        left_falls None m = absurd (both_ways false refl m)
        left_falls (Some held) m =
            let was = cond-true (eqb held.account account) (n.payable held.pledge day price) 0 m in
            let is = cond-true (eqb held.account account) (n.payable (n.left held.pledge ask day price) day price) 0 m in
            omega (arith, (draws held.pledge).falls)

        left_least : (o : Option (Held P)) → mine account o ≡ true → min ask (can o) ≤ yields_at n o ask day price
        left_least None m = absurd (both_ways false refl m)
        left_least (Some held) m =
            let was = cond-true (eqb held.account account) (n.payable held.pledge day price) 0 m in
            omega (arith, (draws held.pledge).least)

-- A draw on an account's pledges on a shelf.
pub record Draw (P : Type 0) : Type 0 where
  pub n : Numbers P
  pub shelf : List (Option (Held P))
  pub account : ℕ
  pub ask : ℕ
  pub day : ℕ
  pub price : ℕ

module _ {P : Type 0} (d : Draw P) where
  -- what stands at place k
  abbrev pub was : ℕ → Option (Held P)
  was k = at d.shelf k

  -- what it counts for the account
  abbrev pub worth : Option (Held P) → ℕ
  worth o = counted d.account (λ p. d.n.payable p d.day d.price) o

  abbrev pub pays : ℕ → ℕ
  pays k = can_pay d.n d.shelf d.account d.day d.price k

  abbrev pub before : ℕ → ℕ
  before k = earlier d.n d.shelf d.account d.day d.price k

  abbrev pub comes : ℕ → Bool
  comes k = reached d.n d.shelf d.account d.ask d.day d.price k

  abbrev pub final : ℕ → Option (Held P)
  final k = place_after d.n d.shelf d.account d.ask d.day d.price k

  abbrev pub get : ℕ → ℕ
  get k = place_yields d.n d.shelf d.account d.ask d.day d.price k

  -- the place after a draw of `ask` cents
  abbrev pub left_of : ℕ → Option (Held P) → Option (Held P)
  left_of ask o = left_at d.n o ask d.day d.price

  -- what such a draw yields
  abbrev pub yields_of : ℕ → Option (Held P) → ℕ
  yields_of ask o = yields_at d.n o ask d.day d.price

  -- what is asked of place k
  abbrev pub asked : ℕ → ℕ
  asked k = d.ask - before k

  pub pays_none : (k : ℕ) → mine d.account (was k) ≡ false → pays k ≡ 0
  pays_none k m = counted_none d.account (λ p. d.n.payable p d.day d.price) (was k) m

  pub reached_mine : (k : ℕ) → comes k ≡ true → mine d.account (was k) ≡ true
  reached_mine k c = (and_parts (mine d.account (was k)) (ltb (before k) d.ask) c).0

  reached_lacks : (k : ℕ) → comes k ≡ true → before k < d.ask
  reached_lacks k c = ltb-true (before k) d.ask (and_parts (mine d.account (was k)) (ltb (before k) d.ask) c).1

  pub reached_from : (k : ℕ) → mine d.account (was k) ≡ true → before k < d.ask → comes k ≡ true
  reached_from k m b = and_from (mine d.account (was k)) (ltb (before k) d.ask) m (lt-ltb (before k) d.ask b)

  pub not_mine : (k : ℕ) → mine d.account (was k) ≡ false → comes k ≡ false
  not_mine k m = and_left (mine d.account (was k)) (ltb (before k) d.ask) m

  pub not_lacking : (k : ℕ) → d.ask ≤ before k → comes k ≡ false
  not_lacking k b = elim (cases_Bool (comes k)) [ inl c ↦ absurd (omega (arith, reached_lacks k c)) | inr c ↦ c ]

  pub after_same : (k : ℕ) → comes k ≡ false → final k ≡ was k
  after_same k c = cond-false (comes k) (left_of (asked k) (was k)) (was k) c

  pub after_drawn : (k : ℕ) → comes k ≡ true → final k ≡ left_of (asked k) (was k)
  after_drawn k c = cond-true (comes k) (left_of (asked k) (was k)) (was k) c

  pub yields_none : (k : ℕ) → comes k ≡ false → get k ≡ 0
  yields_none k c = cond-false (comes k) (yields_of (asked k) (was k)) 0 c

  pub yields_drawn : (k : ℕ) → comes k ≡ true → get k ≡ yields_of (asked k) (was k)
  yields_drawn k c = cond-true (comes k) (yields_of (asked k) (was k)) 0 c

  -- what holds of the place as it was and as a draw leaves it
  either_way : (Q : Option (Held P) → Type 0) (k : ℕ) → Q (left_of (asked k) (was k)) → Q (was k) → Q (final k)
  either_way Q k drawn same = cond_both (comes k) (left_of (asked k) (was k)) (was k) Q (λ _. drawn) (λ _. same)

  pub after_mine : (a k : ℕ) → mine a (final k) ≡ mine a (was k)
  after_mine a k = either_way (λ o. mine a o ≡ mine a (was k)) k (left_mine d.n (asked k) d.day d.price a (was k)) refl

  -- for another account a place counts what it did
  pub after_others : (a : ℕ) (f : P → ℕ) → (a ≡ d.account → ⊥) → (k : ℕ) → counted a f (final k) ≡ counted a f (was k)
  after_others a f ne k =
      elim (cases_Bool (comes k)) [
        | inl c ↦
            let no = mine_one d.account a (was k) (reached_mine k c) ne in
            counted_none a f (final k) (after_mine a k ∙ no) ∙ sym (counted_none a f (was k) no)
        | inr c ↦ ap (counted a f) (after_same k c)
      ]

  module _ (rules : Rules d.n) (priced : Priced d.price) where
    by_rules : (k : ℕ) (p : P) → Drawn d.n p (asked k) d.day d.price (d.n.yields p (asked k) d.day d.price) (d.n.left p (asked k) d.day d.price)
    by_rules k p = rules.draws p (asked k) d.day d.price priced

    pub after_expiry : (k : ℕ) → expiry_at d.n (final k) ≡ expiry_at d.n (was k)
    after_expiry k =
        either_way (λ o. expiry_at d.n o ≡ expiry_at d.n (was k)) k
        (left_expiry d.n (asked k) d.day d.price (by_rules k) (was k)) refl

    after_le : (a : ℕ) (f : P → ℕ) (k : ℕ) → ((p : P) → f (d.n.left p (asked k) d.day d.price) ≤ f p) →
        counted a f (final k) ≤ counted a f (was k)
    after_le a f k h =
        either_way (λ o. counted a f o ≤ counted a f (was k)) k (left_le d.n (asked k) d.day d.price a f h (was k)) (omega arith)

    pub after_cover : (a e k : ℕ) → counted a (λ p. d.n.cover p e) (final k) ≤ counted a (λ p. d.n.cover p e) (was k)
    after_cover a e k = after_le a (λ p. d.n.cover p e) k (λ p. (by_rules k p).cover_falls e)

    pub after_payable : (a e q k : ℕ) → counted a (λ p. d.n.payable p e q) (final k) ≤ counted a (λ p. d.n.payable p e q) (was k)
    after_payable a e q k = after_le a (λ p. d.n.payable p e q) k (λ p. (by_rules k p).payable_falls e q)

    -- what a place yields, and what it can still pay, is what it could pay
    pub after_falls : (k : ℕ) → get k + worth (final k) ≡ pays k
    after_falls k =
        elim (cases_Bool (comes k)) [
          | inl c ↦ omega (
            arith,
            yields_drawn k c,
            ap worth (after_drawn k c),
            left_falls d.n (asked k) d.day d.price (by_rules k) d.account (was k) (reached_mine k c),
          )
          | inr c ↦ omega (arith, yields_none k c, ap worth (after_same k c))
        ]

    pub yields_least : (k : ℕ) → mine d.account (was k) ≡ true → min (asked k) (pays k) ≤ get k
    yields_least k m =
        elim (cases_lt (before k) d.ask) [
          | inl b ↦ omega (
            arith,
            yields_drawn k (reached_from k m b),
            left_least d.n (asked k) d.day d.price (by_rules k) d.account (was k) m,
          )
          | inr b ↦ omega arith
        ]

    module _ (k : ℕ) (held : Held P) (here : was k ≡ Some held) (c : comes k ≡ true) where
      abbrev left_pledge : P
      left_pledge = d.n.left held.pledge (asked k) d.day d.price

      -- a place that is reached is drawn on by the rules
      pub reached_drawn : Drawn d.n held.pledge (asked k) d.day d.price (get k) left_pledge
      reached_drawn =
          subst (λ (y : ℕ). Drawn d.n held.pledge (asked k) d.day d.price y left_pledge)
          (sym (yields_drawn k c ∙ ap (yields_of (asked k)) here)) (by_rules k held.pledge)

      pub reached_leaves : final k ≡ Some (record { account = held.account; pledge = left_pledge })
      reached_leaves = after_drawn k c ∙ ap (left_of (asked k)) here
