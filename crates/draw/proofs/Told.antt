-- What drawing on an account's pledges comes to, proved of every draw.
use Rattle.std.proofs.Common.{◌≡◌, ℕ, zero, suc, ◌+◌, ◌-◌, ◌<◌, ◌≤◌, List, length, Some, None, Option, sym, refl, ap, ◌∙◌, inl, inr, arith}
use Rattle.std.proofs.lemmas.List.FromFn.{length-map-range_with_len, get_or-map-range_with_len}
use Rattle.std.proofs.lemmas.List.{ext_get_or, get_or_past}
use Rattle.std.proofs.lemmas.Bool.{cases_Bool, cases_lt}
use Rattle.pledge.specs.Limits.{Priced}
use Rattle.pledge.specs.Numbers.{Numbers, Rules}
use Rattle.pledge.specs.declared.price.BlockPrice.{BlockPrice}
use Rattle.shelf.specs.Limits.{shelf_places, top_cover}
use Rattle.shelf.specs.Places.{at, counted, over}
use Rattle.shelf.specs.declared.held.Held.{Held}
use Rattle.sums.specs.Below.{below}
use Rattle.sums.proofs.Sums.{below_none, below_same, below_added, below_le}
use Rattle.draw.specs.Draws.{mine, expiry_at, all_can_pay, drawn, yielded, DrawTold, DrawsTold}
use Rattle.draw.specs.Nexts.{NextIs}
use Rattle.draw.specs.declared.turn.Turn.{Turn}
use Rattle.draw.proofs.Before.{with_before_most, to_come}
use Rattle.draw.proofs.Going.{Going, Stepped, Finished, all_most, start, step, enough_had, all_had}
use Rattle.draw.proofs.Nearest.{nearest, nearest_is}
use Rattle.draw.proofs.Orders.{start_turn}
use Rattle.draw.proofs.Places.{Draw, was, worth, pays, final, get, pays_none, not_mine, not_lacking, after_same, yields_none, after_mine, after_others, after_expiry, after_cover, after_payable, after_falls, yields_least, reached_drawn, reached_leaves}

-- a block price is a price
pub price_stands : (price : BlockPrice) → Priced price.cents
price_stands price = record { low = price.low; high = price.high }

module _ {P : Type 0} (d : Draw P) (rules : Rules d.n) (priced : Priced d.price) where
  abbrev all : ℕ
  all = all_can_pay d.n d.shelf d.account d.day d.price

  abbrev came : ℕ
  came = yielded d.n d.shelf d.account d.ask d.day d.price

  abbrev left : List (Option (Held P))
  left = drawn d.n d.shelf d.account d.ask d.day d.price

  left_long : length left ≡ length d.shelf
  unfolding drawn
  left_long = length-map-range_with_len (final d) 0 (length d.shelf)

  left_at_place : (k : ℕ) → at left k ≡ final d k
  unfolding drawn
  left_at_place k =
      elim (cases_lt k (length d.shelf)) [
        | inl l ↦ get_or-map-range_with_len (final d) 0 (length d.shelf) k k None l (omega arith)
        | inr l ↦
            let none = get_or_past d.shelf k None l in
            get_or_past left k None (omega (arith, left_long)) ∙ sym (after_same d k (not_mine d k (ap (mine d.account) none)) ∙ none)
      ]

  -- a sum over an account's pledges afterwards, place by place
  left_over : (a : ℕ) (f : P → ℕ) → over a f left ≡ below (length d.shelf) (λ k. counted a f (final d k))
  left_over a f =
      ap (λ m. below m (λ k. counted a f (at left k))) left_long
      ∙ below_same (length d.shelf) (λ k. counted a f (at left k)) (λ k. counted a f (final d k)) (λ k _. ap (counted a f) (left_at_place k))

  over_falls : (a : ℕ) (f : P → ℕ) → ((k : ℕ) → counted a f (final d k) ≤ counted a f (was d k)) → over a f left ≤ over a f d.shelf
  over_falls a f h =
      omega (arith, left_over a f, below_le (length d.shelf) (λ k. counted a f (final d k)) (λ k. counted a f (was d k)) (λ k _. h k))

  over_stays : (a : ℕ) (f : P → ℕ) → (a ≡ d.account → ⊥) → over a f left ≡ over a f d.shelf
  over_stays a f ne =
      left_over a f
      ∙ below_same (length d.shelf) (λ k. counted a f (final d k)) (λ k. counted a f (was d k)) (λ k _. after_others d a f ne k)

  came_falls : came + all_can_pay d.n left d.account d.day d.price ≡ all
  unfolding yielded
  came_falls =
      let rest = left_over d.account (λ p. d.n.payable p d.day d.price) in
      let both = below_added (length d.shelf) (get d) (λ k. worth d (final d k)) in
      let same = below_same (length d.shelf) (λ k. get d k + worth d (final d k)) (pays d) (λ k _. after_falls d rules priced k) in
      omega arith

  came_short : all < d.ask → came ≡ all
  unfolding yielded
  came_short h =
      below_same (length d.shelf) (get d) (pays d) (λ k l. elim (cases_Bool (mine d.account (was d k))) [
        | inl m ↦
            omega (arith, with_before_most d.n d.shelf (pays d) k l, after_falls d rules priced k, yields_least d rules priced k m)
        | inr m ↦ yields_none d k (not_mine d k m) ∙ sym (pays_none d k m)
      ])

  came_none : d.ask ≡ 0 → came ≡ 0
  unfolding yielded
  came_none z = below_none (length d.shelf) (get d) (λ k _. yields_none d k (not_lacking d k (omega arith)))

  left_idle : d.ask ≡ 0 → left ≡ d.shelf
  left_idle z = ext_get_or None left d.shelf left_long (λ k _. left_at_place k ∙ after_same d k (not_lacking d k (omega arith)))

  module _ {lack total : ℕ} {t : Turn} {now : List (Option (Held P))} (go : Going d lack total t now) (lacking : 0 < lack) where
    -- the ask comes of the next draw and those after it
    enough_next : d.ask ≤ all →
        ((x : Turn) (y : ℕ) (next : List (Option (Held P))) → Stepped d lack total y t x next → d.ask ≤ came) →
        (o : Option Turn) → NextIs d.n now d.account t (length now) o → d.ask ≤ came
    enough_next h on None none = let all-came = go.lacks lacking in omega (arith, all_had d rules priced go none)
    enough_next h on (Some x) next = on x _ _ (step d rules priced go lacking next refl refl)

  -- m draws at most
  enough_by : (m : ℕ) {lack total : ℕ} {t : Turn} {now : List (Option (Held P))} → Going d lack total t now →
      to_come d.n d.shelf t < m → d.ask ≤ all → d.ask ≤ came
  enough_by zero go l h = absurd (omega arith)
  enough_by (suc m) {lack} {total} {t} {now} go l h =
      elim (cases_lt 0 lack) [
        | inl lacking ↦
            enough_next go lacking h (λ x y _ on. enough_by m (on.going (lack - y) refl) (omega (arith, on.fewer)) h)
            (nearest d.n now d.account t (length now)) (nearest_is d.n now d.account t (length now))
        | inr z ↦ omega (arith, go.reach, (enough_had d rules priced go z).yields)
      ]

  pub draw_told : DrawTold d.n d.shelf d.account d.ask d.day d.price
  draw_told = record {
    long = left_long;
    places = left_at_place;
    others = λ k m. left_at_place k ∙ after_same d k (not_mine d k m);
    spared = λ k b. left_at_place k ∙ after_same d k (not_lacking d k b);
    backs = λ a k. ap (mine a) (left_at_place k) ∙ after_mine d a k;
    expires = λ k. ap (expiry_at d.n) (left_at_place k) ∙ after_expiry d rules priced k;
    draws = reached_drawn d rules priced;
    leaves = λ k held here c. left_at_place k ∙ reached_leaves d rules priced k held here c;
    gives = yields_least d rules priced;
    gives_most = λ k. ap (λ o. get d k + worth d o) (left_at_place k) ∙ after_falls d rules priced k;
    enough = enough_by (suc (to_come d.n d.shelf start_turn)) (start d rules priced) (omega arith);
    short = came_short;
    most = omega (arith, came_falls);
    falls = came_falls;
    none = came_none;
    idle = left_idle;
    cover_falls = λ a e. over_falls a (λ p. d.n.cover p e) (after_cover d rules priced a e);
    payable_falls = λ a e q. over_falls a (λ p. d.n.payable p e q) (after_payable d rules priced a e q);
    cover_stays = λ a e. over_stays a (λ p. d.n.cover p e);
    payable_stays = λ a e q. over_stays a (λ p. d.n.payable p e q);
  }

  module _ {total : ℕ} {now : List (Option (Held P))} (done : Finished d total now) where
    pub most_came : length d.shelf ≤ shelf_places → total ≤ top_cover
    most_came within = omega (arith, done.yields, draw_told.most, all_most d rules priced within)

    pub none_came : d.ask ≡ 0 → total ≡ 0
    none_came z = done.yields ∙ came_none z

-- so it is with every draw
pub draws_told : {P : Type 0} {n : Numbers P} → Rules n → DrawsTold n
draws_told {n = n} rules shelf account ask day price priced =
    draw_told (record { n = n; shelf = shelf; account = account; ask = ask; day = day; price = price }) rules priced
