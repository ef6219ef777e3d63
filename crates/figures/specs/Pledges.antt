-- Worked figures of the two kinds of pledge, in cents.
use Rattle.std.specs.Prelude.{◌≡◌, ℕ, ◌+◌, ◌*◌, ◌≤◌}
use Rattle.kinds.specs.Amounts.{thousand}
use Rattle.kinds.specs.Bonds.{bonded}
use Rattle.kinds.specs.Guarantees.{guaranteed}
use Rattle.kinds.specs.declared.bond.Bond.{Bond}
use Rattle.kinds.specs.declared.guarantee.Guarantee.{Guarantee}
use Rattle.figures.specs.declared.pledges.PledgeFigures.{PledgeFigures}

-- a block sells for 95,000 dollars
abbrev pub block_price : ℕ
block_price = 9500000

-- The figures.
abbrev pub worked : PledgeFigures
worked = record {
  cover_on_day_8 = 5000000;
  cover_on_day_9 = 0;
  payable_on_day_9 = 5000000;
  payable_on_day_10 = 0;
  one_block_asked = 9500000;
  one_cent_more_asked = 19000000;
}

-- a guarantee of 50 thousands that expires on day 9
abbrev pub Fifty : Guarantee → Type 0
Fifty g = (g.left ≡ 50 * thousand) × (g.expiry ≡ 9)

-- The definitions of the two kinds give the figures: of every such guarantee at every block price, and of every two
-- blocks of bonds on every day up to and with their expiry.
pub record PledgeFiguresHold : Type 0 where
  pub cover_on_day_8 : (g : Guarantee) → Fifty g → guaranteed.cover g 8 ≡ worked.cover_on_day_8
  pub cover_on_day_9 : (g : Guarantee) → Fifty g → guaranteed.cover g 9 ≡ worked.cover_on_day_9
  pub payable_on_day_9 : (g : Guarantee) (price : ℕ) → Fifty g → guaranteed.payable g 9 price ≡ worked.payable_on_day_9
  pub payable_on_day_10 : (g : Guarantee) (price : ℕ) → Fifty g → guaranteed.payable g 10 price ≡ worked.payable_on_day_10
  -- asked for the price of one block, two blocks yield that
  pub one_block_asked : (b : Bond) (day : ℕ) → b.blocks ≡ 2 → day ≤ b.expiry →
      bonded.yields b block_price day block_price ≡ worked.one_block_asked
  -- asked for one cent more, they yield the price of two
  pub one_cent_more_asked : (b : Bond) (day : ℕ) → b.blocks ≡ 2 → day ≤ b.expiry →
      bonded.yields b (block_price + 1) day block_price ≡ worked.one_cent_more_asked
