-- What bonds are worth: so much for each block left.
use Rattle.std.specs.Prelude.{◌≡◌, ℕ, ◌+◌, ◌-◌, ◌*◌, ◌/◌, ◌%◌, ◌<◌, ◌≤◌, min, cond, Some, None, Option, ◌==◌, nat_le, nat_lt}
use Rattle.std.proofs.Common.{arith}
use Rattle.pledge.specs.Numbers.{Numbers}
use Rattle.kinds.specs.Amounts.{Within, block_cover, top_blocks}
use Rattle.kinds.specs.declared.bond.Bond.{Bond}

-- Bonds are pledged exactly where the blocks are in range: that many blocks, with that expiry.
abbrev pub Lodged : Option Bond → ℕ → ℕ → Type 0
Lodged (Some b) blocks expiry = Within top_blocks blocks × (b.blocks ≡ blocks) × (b.expiry ≡ expiry)
Lodged None blocks expiry = Within top_blocks blocks → ⊥

-- the blocks that count on a day: those left before the expiry day, and none from it on
abbrev pub covered_on : Bond → ℕ → ℕ
covered_on b day = cond (nat_lt day b.expiry) b.blocks 0

-- the blocks that can be sold on a day: those left up to and on the expiry day, and none after it
abbrev pub blocks_on : Bond → ℕ → ℕ
blocks_on b day = cond (nat_le day b.expiry) b.blocks 0

-- the fewest blocks whose price reaches the ask: the ask by the price, rounded up
abbrev pub reach : ℕ → ℕ → ℕ
reach ask price = ask / price + cond (ask % price == 0) 0 1

-- the blocks that a draw sells: the fewest that reach the ask, or all
abbrev pub sold_on : Bond → ℕ → ℕ → ℕ → ℕ
sold_on b ask day price = min (reach ask price) (blocks_on b day)

-- the bonds with n blocks sold
abbrev pub less : Bond → ℕ → Bond
less b n = record { expiry = b.expiry; blocks = b.blocks - n; days = b.days; most = omega (arith, b.most) }

-- Each block left covers nine tenths of its face before the expiry day, and pays the block price up to and on it.
-- A draw sells whole blocks, so its step is the block price.
abbrev pub bonded : Numbers Bond
bonded = record {
  expiry = λ b. b.expiry;
  cover = λ b day. covered_on b day * block_cover;
  payable = λ b day price. blocks_on b day * price;
  step = λ b price. price;
  yields = λ b ask day price. sold_on b ask day price * price;
  left = λ b ask day price. less b (sold_on b ask day price);
}

-- the blocks sold between one state of the bonds and a later one
abbrev pub sold : Bond → Bond → ℕ
sold before after = before.blocks - after.blocks

-- Of the blocks that can be sold, n are sold for an ask at a block price and y cents come of it: the fewest blocks that
-- reach the ask, or all.
pub record Fewest (all n ask price y : ℕ) : Type 0 where
  pub paid : y ≡ n * price
  pub within : n ≤ all
  -- where some block is kept, the ask is reached
  pub reached : n < all → ask ≤ n * price
  -- no smaller number of blocks reaches the ask
  pub no_fewer : (m : ℕ) → m < n → m * price < ask
