-- What holds between one draw and the next.
use Rattle.std.proofs.Common.{◌≡◌, ℕ, ◌+◌, ◌-◌, ◌<◌, ◌≤◌, Bool, true, false, cond, List, length, set, None, Option, sym, refl, ap, ◌∙◌, subst, inl, inr, arith, length-set, get_or-set_other, get_or-set_same}
use Rattle.std.proofs.lemmas.List.FromFn.{fill_by_all}
use Rattle.std.proofs.lemmas.Bool.{cases_eq, cases_Bool, both_ways, cond-true, cond-false, cond_both}
use Rattle.pledge.specs.Limits.{Priced, top_cents}
use Rattle.pledge.specs.Numbers.{Rules}
use Rattle.shelf.specs.Limits.{shelf_places, top_cover}
use Rattle.shelf.specs.Places.{at}
use Rattle.shelf.specs.declared.held.Held.{Held}
use Rattle.shelf.proofs.Cover.{counted_most}
use Rattle.sums.proofs.Sums.{below_most}
use Rattle.draw.specs.Draws.{mine, expiry_at, turn_at, sooner, all_can_pay, before_turn, drawn, yielded}
use Rattle.draw.specs.Nexts.{First, NextIs}
use Rattle.draw.specs.declared.turn.Turn.{Turn}
use Rattle.draw.proofs.Before.{turn_is, no_turn_between, before_start, before_le, before_most, before_all, before_next, before_past_next, to_come, to_come_less}
use Rattle.draw.proofs.Orders.{start_turn, past, sooner_past, sooner_here, sooner_start}
use Rattle.draw.proofs.Places.{Draw, was, pays, before, comes, final, get, left_of, yields_of, asked, mine_within, pays_none, reached_from, not_mine, not_lacking, after_same, after_drawn, yields_none, yields_drawn, after_mine, after_expiry, after_falls, yields_least}

module _ {P : Type 0} (d : Draw P) where
  abbrev pub turn : ℕ → Turn
  turn k = turn_at d.n d.shelf k

  abbrev pub before_sum : (ℕ → ℕ) → Turn → ℕ
  before_sum f t = before_turn d.n d.shelf f t

  -- The pledges whose turn comes before t are drawn on: `total` came of them, `lack` lacks, and `left` is the shelf by then.
  pub record Going (lack total : ℕ) (t : Turn) (left : List (Option (Held P))) : Type 0 where
    pub total_is : total ≡ before_sum (get d) t
    -- while something lacks, all that they could pay has come
    pub lacks : 0 < lack → (total ≡ before_sum (pays d) t) × (lack + total ≡ d.ask)
    pub most : total ≤ before_sum (pays d) t
    pub reach : d.ask ≤ lack + total
    pub long : length left ≡ length d.shelf
    pub places : (k : ℕ) → at left k ≡ cond (sooner (turn k) t) (final d k) (was d k)

  -- One draw more, on the pledge whose turn x is, for `lack` cents, came to `y`, and `left` is the shelf by then.
  pub record Stepped (lack total y : ℕ) (t x : Turn) (left : List (Option (Held P))) : Type 0 where
    pub going : (rest : ℕ) → rest ≡ lack - y → Going rest (total + y) (past x) left
    pub fewer : to_come d.n d.shelf (past x) < to_come d.n d.shelf t
    pub within : length d.shelf ≤ shelf_places → total + y ≤ top_cover

  -- Nothing is left to do.
  pub record Finished (total : ℕ) (left : List (Option (Held P))) : Type 0 where
    pub yields : total ≡ yielded d.n d.shelf d.account d.ask d.day d.price
    pub leaves : left ≡ drawn d.n d.shelf d.account d.ask d.day d.price

same_either : {X : Type 0} (s : Bool) (x y : X) → x ≡ y → cond s x y ≡ y
same_either true x y e = e
same_either false x y e = refl

module _ {P : Type 0} (d : Draw P) (rules : Rules d.n) (priced : Priced d.price) where
  -- the account's pledges can pay at most `top_cover`
  pub all_most : length d.shelf ≤ shelf_places → all_can_pay d.n d.shelf d.account d.day d.price ≤ top_cover
  all_most within =
      let most = below_most (length d.shelf) top_cents (pays d) (λ k _.
      counted_most d.account (λ p. d.n.payable p d.day d.price) (was d k) top_cents
      (λ p. rules.payable_most p d.day d.price priced)) in
      omega arith

  pub start : Going d d.ask 0 start_turn d.shelf
  start = record {
    total_is = sym (before_start d.n d.shelf (get d));
    lacks = λ _. (sym (before_start d.n d.shelf (pays d)), omega arith);
    most = omega arith;
    reach = omega arith;
    long = refl;
    places = λ k. sym (cond-false (sooner (turn d k) start_turn) (final d k) (was d k) (sooner_start (turn d k)));
  }

  module _ {lack total : ℕ} {t : Turn} {left : List (Option (Held P))} (go : Going d lack total t left) where
    -- what holds of a place before and after holds of it meanwhile
    meanwhile : (Q : Option (Held P) → Type 0) (k : ℕ) → Q (final d k) → Q (was d k) → Q (at left k)
    meanwhile Q k after before =
        subst (λ (o : Option (Held P)). Q o) (sym (go.places k)) (cond_both (sooner (turn d k) t) (final d k) (was d k) Q (λ _. after) (λ _. before))

    going_mine : (k : ℕ) → mine d.account (at left k) ≡ mine d.account (was d k)
    going_mine k = meanwhile (λ o. mine d.account o ≡ mine d.account (was d k)) k (after_mine d d.account k) refl

    going_expiry : (k : ℕ) → expiry_at d.n (at left k) ≡ expiry_at d.n (was d k)
    going_expiry k = meanwhile (λ o. expiry_at d.n o ≡ expiry_at d.n (was d k)) k (after_expiry d rules priced k) refl

    going_turn : (k : ℕ) → turn_at d.n left k ≡ turn d k
    going_turn k = ap (λ (e : ℕ). record { expiry = e; place = k }) (going_expiry k)

    -- whose turn is next on the shelf now, was next on it before
    next_none : NextIs d.n left d.account t (length left) None → NextIs d.n d.shelf d.account t (length d.shelf) None
    next_none none j l m =
        subst (λ (u : Turn). sooner u t ≡ true) (going_turn j) (none j (omega (arith, go.long)) (going_mine j ∙ m))

    next_first : {x : Turn} → First d.n left d.account t (length left) x → First d.n d.shelf d.account t (length d.shelf) x
    next_first {x} f = record {
      within = omega (arith, f.within, go.long);
      held = sym (going_mine x.place) ∙ f.held;
      expiry_is = f.expiry_is ∙ going_expiry x.place;
      after = f.after;
      first = λ j l m s. subst (λ (u : Turn). sooner u x ≡ false) (going_turn j)
          (f.first j (omega (arith, go.long)) (going_mine j ∙ m) (subst (λ (u : Turn). sooner u t ≡ false) (sym (going_turn j)) s));
    }

    module _ (lacking : 0 < lack) {x : Turn} (next : First d.n left d.account t (length left) x) where
      abbrev k : ℕ
      k = x.place

      first : First d.n d.shelf d.account t (length d.shelf) x
      first = next_first next

      untouched : at left k ≡ was d k
      untouched =
          go.places k ∙ cond-false (sooner (turn d k) t) (final d k) (was d k)
          (subst (λ (u : Turn). sooner u t ≡ false) (sym (turn_is d.n d.shelf first)) first.after)

      before_k : before d k ≡ before_sum d (pays d) t
      before_k =
          ap (before_sum d (pays d)) (turn_is d.n d.shelf first)
          ∙ before_next d.n d.shelf (pays d) d.account (pays_none d) first

      reached_k : comes d k ≡ true
      reached_k = let l = go.lacks lacking in reached_from d k first.held (omega (arith, before_k))

      lack_is : asked d k ≡ lack
      lack_is = let l = go.lacks lacking in omega (arith, before_k)

      after_k : final d k ≡ left_of d lack (at left k)
      after_k =
          after_drawn d k reached_k
          ∙ ap (λ a. left_of d a (was d k)) lack_is ∙ ap (left_of d lack) (sym untouched)

      yields_k : get d k ≡ yields_of d lack (at left k)
      yields_k =
          yields_drawn d k reached_k
          ∙ ap (λ a. yields_of d a (was d k)) lack_is ∙ ap (yields_of d lack) (sym untouched)

      step_places : (j : ℕ) → at (set left k (left_of d lack (at left k))) j ≡ cond (sooner (turn d j) (past x)) (final d j) (was d j)
      step_places j =
          let put : Option (Held P) = left_of d lack (at left k) in
          elim (cases_eq j k) [
            | inl e ↦
                let within : k < length left = next.within in
                let past-k : sooner (turn d k) (past x) ≡ true =
                subst (λ (u : Turn). sooner (turn d k) (past u) ≡ true) (turn_is d.n d.shelf first) (sooner_here (turn d k)) in
                subst (λ (i : ℕ). at (set left k put) i ≡ cond (sooner (turn d i) (past x)) (final d i) (was d i)) (sym e)
                (get_or-set_same left k put None within ∙ sym after_k ∙ sym (cond-true (sooner (turn d k) (past x)) (final d k) (was d k) past-k))
            | inr ne ↦
                get_or-set_other left k j put None ne ∙ go.places j ∙ elim (cases_Bool (mine d.account (was d j))) [
                  | inl m ↦
                      let same = sooner_past (turn d j) x ne ∙ no_turn_between d.n d.shelf first (mine_within d.account d.shelf j m) m in
                      ap (λ s. cond s (final d j) (was d j)) (sym same)
                  | inr m ↦
                      let same = after_same d j (not_mine d j m) in
                      same_either (sooner (turn d j) t) (final d j) (was d j) same
                      ∙ sym (same_either (sooner (turn d j) (past x)) (final d j) (was d j) same)
                ]
          ]

      -- x's pledge is drawn on for what lacks
      pub step : {y : ℕ} {put : List (Option (Held P))} → y ≡ yields_of d lack (at left k) →
          put ≡ set left k (left_of d lack (at left k)) → Stepped d lack total y t x put
      step {y} {put} y-is put_is =
          let y-get : get d k ≡ y = yields_k ∙ sym y-is in
          let falls = after_falls d rules priced k in
          let least = yields_least d rules priced k first.held in
          let all = before_past_next d.n d.shelf (pays d) d.account (pays_none d) first in
          let had = before_past_next d.n d.shelf (get d) d.account (λ j m. yields_none d j (not_mine d j m)) first in
          let l = go.lacks lacking in
          let b = before_k in
          let most : total + y ≤ before_sum d (pays d) (past x) = omega (arith, go.most) in
          record {
            going = λ rest rest-is. record {
              total_is = omega (arith, go.total_is);
              lacks = λ h. (omega arith, omega arith);
              most = most;
              reach = omega (arith, go.reach);
              long = ap length put_is ∙ length-set left k (left_of d lack (at left k)) ∙ go.long;
              places = λ j. ap (λ s. at s j) put_is ∙ step_places j;
            };
            fewer = to_come_less d.n d.shelf first;
            within = λ l. omega (arith, before_most d.n d.shelf (pays d) (past x), all_most l);
          }

    -- from t on nothing is drawn on
    abbrev Ended : Type 0
    Ended = (k : ℕ) → sooner (turn d k) t ≡ false → comes d k ≡ false

    ended : Ended → Finished d total left
    unfolding drawn yielded
    ended end = record {
      yields = go.total_is ∙ before_all d.n d.shelf (get d) t (λ j s. yields_none d j (end j s));
      leaves = fill_by_all (final d) left (length d.shelf) None go.long (λ k l. go.places k ∙ elim (cases_Bool (sooner (turn d k) t)) [
        | inl s ↦ cond-true (sooner (turn d k) t) (final d k) (was d k) s
        | inr s ↦ cond-false (sooner (turn d k) t) (final d k) (was d k) s ∙ sym (after_same d k (end k s))
      ]);
    }

    -- nothing lacks any more
    pub enough_had : lack ≤ 0 → Finished d total left
    enough_had z = ended (λ k s. not_lacking d k (omega (arith, before_le d.n d.shelf (pays d) t (turn d k) s, go.most, go.reach)))

    module _ (none : NextIs d.n left d.account t (length left) None) where
      none_left : (k : ℕ) → sooner (turn d k) t ≡ false → mine d.account (was d k) ≡ false
      none_left k s =
          elim (cases_Bool (mine d.account (was d k))) [
            | inl m ↦ absurd (both_ways _ s (next_none none k (mine_within d.account d.shelf k m) m))
            | inr m ↦ m
          ]

      -- no pledge of the account is left to draw on
      pub all_drawn : Finished d total left
      all_drawn = ended (λ k s. not_mine d k (none_left k s))

      -- and then all that could be paid has come
      pub all_had : before_sum d (pays d) t ≡ all_can_pay d.n d.shelf d.account d.day d.price
      all_had = before_all d.n d.shelf (pays d) t (λ k s. pays_none d k (none_left k s))
