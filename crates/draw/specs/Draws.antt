-- Drawing on an account's pledges on one shelf, on one day at one block price: nearer expiry first and then lower place, each
-- asked only for what still lacks.
use Rattle.std.specs.Prelude.{◌≡◌, ℕ, ◌+◌, ◌-◌, ◌<◌, ◌≤◌, min, Bool, true, false, cond, ◌&&◌, ◌||◌, List, map, length, Some, None, Option, ◌==◌, ◌≢◌, nat_lt}
use Rattle.std.specs.List.{range_with_len}
use Rattle.pledge.specs.Limits.{Priced}
use Rattle.pledge.specs.Numbers.{Numbers, Drawn}
use Rattle.shelf.specs.Places.{at, counted, over, cover_of}
use Rattle.shelf.specs.declared.held.Held.{Held}
use Rattle.sums.specs.Below.{below}
use Rattle.draw.specs.declared.turn.Turn.{Turn}

-- mine account place: whether a place holds a pledge of the account
abbrev pub mine : {P : Type 0} → ℕ → Option (Held P) → Bool
mine account None = false
mine account (Some held) = held.account == account

-- expiry_at n place: the expiry day of the pledge in a place
abbrev pub expiry_at : {P : Type 0} → Numbers P → Option (Held P) → ℕ
expiry_at n None = 0
expiry_at n (Some held) = n.expiry held.pledge

-- turn_at n shelf k: when the pledge at place k has its turn
abbrev pub turn_at : {P : Type 0} → Numbers P → List (Option (Held P)) → ℕ → Turn
turn_at n shelf k = record { expiry = expiry_at n (at shelf k); place = k }

-- sooner s t: turn s comes before turn t, by a nearer expiry, or by a lower place where they expire on one day
abbrev pub sooner : Turn → Turn → Bool
sooner s t = nat_lt s.expiry t.expiry || (s.expiry == t.expiry && nat_lt s.place t.place)

-- can_pay n shelf account day price k: what the pledge at place k can pay, if it is the account's
abbrev pub can_pay : {P : Type 0} → Numbers P → List (Option (Held P)) → ℕ → ℕ → ℕ → ℕ → ℕ
can_pay n shelf account day price k = counted account (λ p. n.payable p day price) (at shelf k)

-- all_can_pay n shelf account day price: what the account's pledges on the shelf can pay
abbrev pub all_can_pay : {P : Type 0} → Numbers P → List (Option (Held P)) → ℕ → ℕ → ℕ → ℕ
all_can_pay n shelf account day price = over account (λ p. n.payable p day price) shelf

-- before_turn n shelf f t: the sum of f over the places whose turn comes before t
abbrev pub before_turn : {P : Type 0} → Numbers P → List (Option (Held P)) → (ℕ → ℕ) → Turn → ℕ
before_turn n shelf f t = below (length shelf) (λ k. cond (sooner (turn_at n shelf k) t) (f k) 0)

-- earlier n shelf account day price k: what the account's pledges can pay that have their turn before place k
abbrev pub earlier : {P : Type 0} → Numbers P → List (Option (Held P)) → ℕ → ℕ → ℕ → ℕ → ℕ
earlier n shelf account day price k = before_turn n shelf (can_pay n shelf account day price) (turn_at n shelf k)

-- left_at n place ask day price: a place after a draw on its pledge
abbrev pub left_at : {P : Type 0} → Numbers P → Option (Held P) → ℕ → ℕ → ℕ → Option (Held P)
left_at n None ask day price = None
left_at n (Some held) ask day price = Some (record { account = held.account; pledge = n.left held.pledge ask day price })

-- yields_at n place ask day price: what that draw yields
abbrev pub yields_at : {P : Type 0} → Numbers P → Option (Held P) → ℕ → ℕ → ℕ → ℕ
yields_at n None ask day price = 0
yields_at n (Some held) ask day price = n.yields held.pledge ask day price

-- reached n shelf account ask day price k: the pledge at place k is the account's, and the earlier ones cannot pay the ask
abbrev pub reached : {P : Type 0} → Numbers P → List (Option (Held P)) → ℕ → ℕ → ℕ → ℕ → ℕ → Bool
reached n shelf account ask day price k = mine account (at shelf k) && nat_lt (earlier n shelf account day price k) ask

-- place_after n shelf account ask day price k: place k afterwards, drawn on for what the earlier ones cannot pay if it is reached
abbrev pub place_after : {P : Type 0} → Numbers P → List (Option (Held P)) → ℕ → ℕ → ℕ → ℕ → ℕ → Option (Held P)
place_after n shelf account ask day price k =
    cond (reached n shelf account ask day price k)
    (left_at n (at shelf k) (ask - earlier n shelf account day price k) day price) (at shelf k)

-- place_yields n shelf account ask day price k: what comes of place k
abbrev pub place_yields : {P : Type 0} → Numbers P → List (Option (Held P)) → ℕ → ℕ → ℕ → ℕ → ℕ → ℕ
place_yields n shelf account ask day price k =
    cond (reached n shelf account ask day price k)
    (yields_at n (at shelf k) (ask - earlier n shelf account day price k) day price) 0

-- drawn n shelf account ask day price: the shelf after the account's pledges are drawn on for the ask
unfoldable pub drawn : {P : Type 0} → Numbers P → List (Option (Held P)) → ℕ → ℕ → ℕ → ℕ → List (Option (Held P))
drawn n shelf account ask day price = map (place_after n shelf account ask day price) (range_with_len 0 (length shelf))

-- yielded n shelf account ask day price: what comes of it
unfoldable pub yielded : {P : Type 0} → Numbers P → List (Option (Held P)) → ℕ → ℕ → ℕ → ℕ → ℕ
yielded n shelf account ask day price = below (length shelf) (place_yields n shelf account ask day price)

-- What drawing on an account's pledges for an ask comes to: `y` cents come, and the shelf is `after`.
pub record Outcome {P : Type 0} (n : Numbers P) (shelf : List (Option (Held P))) (account ask day price : ℕ) (after : List (Option (Held P))) (y : ℕ) : Type 0 where
  pub long : length after ≡ length shelf
  pub places : (k : ℕ) → at after k ≡ place_after n shelf account ask day price k
  -- what is not the account's, or has its turn once the earlier ones can pay the ask, is as it was
  pub others : (k : ℕ) → mine account (at shelf k) ≡ false → at after k ≡ at shelf k
  pub spared : (k : ℕ) → ask ≤ earlier n shelf account day price k → at after k ≡ at shelf k
  -- every pledge backs whom it backed, and expires when it did
  pub backs : (a k : ℕ) → mine a (at after k) ≡ mine a (at shelf k)
  pub expires : (k : ℕ) → expiry_at n (at after k) ≡ expiry_at n (at shelf k)
  -- a pledge that is reached is drawn on by the rules of a draw, for what the earlier ones cannot pay
  pub draws : (k : ℕ) (held : Held P) → at shelf k ≡ Some held → reached n shelf account ask day price k ≡ true →
      Drawn n held.pledge (ask - earlier n shelf account day price k) day price (place_yields n shelf account ask day price k)
      (n.left held.pledge (ask - earlier n shelf account day price k) day price)
  pub leaves : (k : ℕ) (held : Held P) → at shelf k ≡ Some held → reached n shelf account ask day price k ≡ true →
      at after k ≡
      Some (record { account = held.account; pledge = n.left held.pledge (ask - earlier n shelf account day price k) day price })
  -- what is asked of the account's pledge comes of it, or all that it can pay, and it can pay that much less
  pub gives : (k : ℕ) → mine account (at shelf k) ≡ true →
      min (ask - earlier n shelf account day price k) (can_pay n shelf account day price k) ≤ place_yields n shelf account ask day price k
  pub gives_most : (k : ℕ) →
      place_yields n shelf account ask day price k + can_pay n after account day price k ≡ can_pay n shelf account day price k
  -- the ask comes if they can pay it, and else all that they can pay
  pub enough : ask ≤ all_can_pay n shelf account day price → ask ≤ y
  pub short : all_can_pay n shelf account day price < ask → y ≡ all_can_pay n shelf account day price
  pub most : y ≤ all_can_pay n shelf account day price
  pub falls : y + all_can_pay n after account day price ≡ all_can_pay n shelf account day price
  -- for the ask 0 nothing comes, and the shelf stays
  pub none : ask ≡ 0 → y ≡ 0
  pub idle : ask ≡ 0 → after ≡ shelf
  -- for no account does cover rise on any day, or what its pledges can pay on any day at any price
  pub cover_falls : (a d : ℕ) → cover_of n after a d ≤ cover_of n shelf a d
  pub payable_falls : (a d q : ℕ) → all_can_pay n after a d q ≤ all_can_pay n shelf a d q
  -- for another account both stay
  pub cover_stays : (a d : ℕ) → (a ≢ account) → cover_of n after a d ≡ cover_of n shelf a d
  pub payable_stays : (a d q : ℕ) → (a ≢ account) → all_can_pay n after a d q ≡ all_can_pay n shelf a d q

-- DrawTold n shelf account ask day price: what this one draw comes to
abbrev pub DrawTold : {P : Type 0} → Numbers P → List (Option (Held P)) → ℕ → ℕ → ℕ → ℕ → Type 0
DrawTold n shelf account ask day price =
    Outcome n shelf account ask day price (drawn n shelf account ask day price) (yielded n shelf account ask day price)

-- DrawsTold n: what every draw on pledges of a kind comes to
abbrev pub DrawsTold : {P : Type 0} → Numbers P → Type 0
DrawsTold n = (shelf : List _) (account ask day price : ℕ) → Priced price → DrawTold n shelf account ask day price
