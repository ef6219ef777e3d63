-- The numbers of a pledge, and the rules that every kind of pledge keeps.
--
-- Days count up from 0; amounts and prices are in cents. The block price is what one block of bonds sells for.
use Rattle.std.specs.Prelude.{◌≡◌, ℕ, ◌+◌, ◌<◌, ◌≤◌, min}
use Rattle.pledge.specs.Limits.{top_cents, last_expiry, Priced}

-- What a kind says of its pledges. To draw on a pledge is to ask it for cents on a day at a block price.
pub record Numbers (P : Type 0) : Type 0 where
  -- expiry: the last day on which the pledge pays
  pub expiry : P → ℕ
  -- cover p day: what the pledge counts for on a day
  pub cover : P → ℕ → ℕ
  -- payable p day price: all that a draw can get from it on a day at a block price
  pub payable : P → ℕ → ℕ → ℕ
  -- step p price: a draw comes in pieces this large, so it yields less than the ask and one step
  pub step : P → ℕ → ℕ
  -- yields p ask day price: the cents that come of a draw
  pub yields : P → ℕ → ℕ → ℕ → ℕ
  -- left p ask day price: the pledge after a draw
  pub left : P → ℕ → ℕ → ℕ → P

-- The rules of a draw: `y` cents come of `before` for an ask on a day at a block price, and `after` is left.
pub record Drawn {P : Type 0} (n : Numbers P) (before : P) (ask day price y : ℕ) (after : P) : Type 0 where
  -- asked for nothing, it yields nothing
  pub none : ask ≡ 0 → y ≡ 0
  -- otherwise it yields less than the ask and one step
  pub near : 0 < ask → y < ask + n.step before price
  -- never more than is payable
  pub most : y ≤ n.payable before day price
  -- and never less than the ask, or than all that is payable
  pub least : min ask (n.payable before day price) ≤ y
  -- what is payable on that day at that price falls by what was yielded
  pub falls : n.payable after day price + y ≡ n.payable before day price
  -- on no day does cover rise
  pub cover_falls : (d : ℕ) → n.cover after d ≤ n.cover before d
  -- on no day and at no price does what is payable rise
  pub payable_falls : (d q : ℕ) → n.payable after d q ≤ n.payable before d q
  -- the expiry stays
  pub expiry_stays : n.expiry after ≡ n.expiry before

-- The rules of a pledge.
pub record Rules {P : Type 0} (n : Numbers P) : Type 0 where
  pub expiry_most : (p : P) → n.expiry p ≤ last_expiry
  pub cover_most : (p : P) (day : ℕ) → n.cover p day ≤ top_cents
  pub payable_most : (p : P) (day price : ℕ) → Priced price → n.payable p day price ≤ top_cents
  pub step_least : (p : P) (price : ℕ) → Priced price → 1 ≤ n.step p price
  pub step_most : (p : P) (price : ℕ) → Priced price → n.step p price ≤ top_cents
  -- from the expiry day on it covers nothing
  pub cover_ends : (p : P) (day : ℕ) → n.expiry p ≤ day → n.cover p day ≡ 0
  -- after the expiry day it pays nothing
  pub payable_ends : (p : P) (day price : ℕ) → n.expiry p < day → n.payable p day price ≡ 0
  -- every draw keeps the rules of a draw
  pub draws : (p : P) (ask day price : ℕ) → Priced price →
      Drawn n p ask day price (n.yields p ask day price) (n.left p ask day price)
