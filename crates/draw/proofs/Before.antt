-- Sums over the places whose turn comes before a given turn.
use Rattle.std.proofs.Common.{◌≡◌, ℕ, ◌+◌, ◌-◌, ◌<◌, ◌≤◌, Bool, true, false, cond, List, length, Option, sym, refl, ap, ◌∙◌, subst, inl, inr, arith}
use Rattle.std.proofs.lemmas.Bool.{cases_Bool, both_ways, cond-true, cond-false}
use Rattle.pledge.specs.Numbers.{Numbers}
use Rattle.shelf.specs.Places.{at}
use Rattle.shelf.specs.declared.held.Held.{Held}
use Rattle.sums.specs.Below.{below}
use Rattle.sums.proofs.Sums.{below_none, below_same, below_changed, below_le, below_most}
use Rattle.draw.specs.Draws.{mine, turn_at, sooner, before_turn}
use Rattle.draw.specs.Nexts.{First}
use Rattle.draw.specs.declared.turn.Turn.{Turn}
use Rattle.draw.proofs.Orders.{start_turn, past, sooner_self, sooner_through, sooner_past, sooner_here, sooner_start}

part_most : (s : Bool) (v : ℕ) → cond s v 0 ≤ v
part_most true v = omega arith
part_most false v = omega arith

part_le : (s t : Bool) (v : ℕ) → (s ≡ true → t ≡ true) → cond s v 0 ≤ cond t v 0
part_le true true v h = omega arith
part_le true false v h = absurd (both_ways false refl (h refl))
part_le false true v h = omega arith
part_le false false v h = omega arith

part_none : (s : Bool) (v : ℕ) → v ≡ 0 → cond s v 0 ≡ 0
part_none true v e = e
part_none false v e = refl

module _ {P : Type 0} (n : Numbers P) (shelf : List (Option (Held P))) where
  abbrev turn : ℕ → Turn
  turn k = turn_at n shelf k

  -- the first turn is that of its place
  pub turn_is : {account upto : ℕ} {from t : Turn} → First n shelf account from upto t → turn t.place ≡ t
  turn_is {t = t} first = ap (λ (e : ℕ). record { expiry = e; place = t.place }) (sym first.expiry_is)

  -- none of the account's turns lies between `from` and the first from there
  pub no_turn_between : {account j : ℕ} {from t : Turn} → First n shelf account from (length shelf) t → j < length shelf →
      mine account (at shelf j) ≡ true → sooner (turn j) t ≡ sooner (turn j) from
  no_turn_between {j = j} {from = from} {t = t} first within m =
      elim (cases_Bool (sooner (turn j) from)) [
        | inl s ↦ sooner_through (turn j) from t s first.after ∙ sym s
        | inr s ↦ first.first j within m s ∙ sym s
      ]

  module _ (f : ℕ → ℕ) where
    -- what place j adds to the sum before t
    abbrev part : Turn → ℕ → ℕ
    part t j = cond (sooner (turn j) t) (f j) 0

    abbrev sum : Turn → ℕ
    sum t = before_turn n shelf f t

    pub before_start : sum start_turn ≡ 0
    before_start =
        below_none (length shelf) (part start_turn) (λ j _. cond-false (sooner (turn j) start_turn) (f j) 0 (sooner_start (turn j)))

    pub before_past : (k : ℕ) → k < length shelf → sum (past (turn k)) ≡ sum (turn k) + f k
    before_past k within =
        let here : part (past (turn k)) k ≡ f k = cond-true (sooner (turn k) (past (turn k))) (f k) 0 (sooner_here (turn k)) in
        let not_yet : part (turn k) k ≡ 0 = cond-false (sooner (turn k) (turn k)) (f k) 0 (sooner_self (turn k)) in
        let changed = below_changed (length shelf) k (part (past (turn k))) (part (turn k)) within
        (λ j ne. ap (λ s. cond s (f j) 0) (sooner_past (turn j) (turn k) ne)) in
        omega arith

    pub before_le : (t u : Turn) → sooner u t ≡ false → sum t ≤ sum u
    before_le t u h =
        below_le (length shelf) (part t) (part u)
        (λ j _. part_le (sooner (turn j) t) (sooner (turn j) u) (f j) (λ s. sooner_through (turn j) t u s h))

    pub before_most : (t : Turn) → sum t ≤ below (length shelf) f
    before_most t = below_le (length shelf) (part t) f (λ j _. part_most (sooner (turn j) t) (f j))

    -- a place and those before it
    pub with_before_most : (k : ℕ) → k < length shelf → sum (turn k) + f k ≤ below (length shelf) f
    with_before_most k within = omega (arith, before_past k within, before_most (past (turn k)))

    -- nothing from t on
    pub before_all : (t : Turn) → ((j : ℕ) → sooner (turn j) t ≡ false → f j ≡ 0) → sum t ≡ below (length shelf) f
    before_all t none =
        below_same (length shelf) (part t) f
        (λ j _. elim (cases_Bool (sooner (turn j) t)) [
          | inl s ↦ cond-true (sooner (turn j) t) (f j) 0 s
          | inr s ↦ cond-false (sooner (turn j) t) (f j) 0 s ∙ sym (none j s)
        ])

    module _ (account : ℕ) (none : (j : ℕ) → mine account (at shelf j) ≡ false → f j ≡ 0) {from t : Turn}
        (first : First n shelf account from (length shelf) t) where
      pub before_next : sum t ≡ sum from
      before_next =
          below_same (length shelf) (part t) (part from)
          (λ j within. elim (cases_Bool (mine account (at shelf j))) [
            | inl m ↦ ap (λ s. cond s (f j) 0) (no_turn_between first within m)
            | inr m ↦ part_none (sooner (turn j) t) (f j) (none j m) ∙ sym (part_none (sooner (turn j) from) (f j) (none j m))
          ])

      -- past the first turn the sum has that place besides
      pub before_past_next : sum (past t) ≡ sum from + f t.place
      before_past_next =
          subst (λ (u : Turn). sum (past u) ≡ sum u + f t.place) (turn_is first) (before_past t.place first.within)
          ∙ ap (λ m. m + f t.place) before_next

  -- to_come t: how many places do not have their turn before t
  abbrev pub to_come : Turn → ℕ
  to_come t = length shelf - before_turn n shelf (λ _. 1) t

  pub to_come_less : {account : ℕ} {from t : Turn} → First n shelf account from (length shelf) t → to_come (past t) < to_come from
  to_come_less {from = from} {t = t} first =
      let passed : Turn → ℕ = before_turn n shelf (λ _. 1) in
      let one : passed (past t) ≡ passed t + 1 =
      subst (λ (u : Turn). passed (past u) ≡ passed u + 1) (turn_is first) (before_past (λ _. 1) t.place first.within) in
      omega (
        arith,
        before_le (λ _. 1) from t first.after,
        before_most (λ _. 1) (past t),
        below_most (length shelf) 1 (λ _. 1) (λ _ _. omega arith),
      )
