-- Two pledges with the same plain fields are one: a ghost field has one proof at most.
use Rattle.std.proofs.Common.{◌≡◌, ◌*◌, ◌≤◌}
use mathlib.Core.HLevel.{is_prop→PathP}
use native.Mathlib.Bridge.{le_prop}
use Rattle.pledge.specs.Limits.{last_expiry}
use Rattle.kinds.specs.Amounts.{thousand, top_thousands, top_blocks}
use Rattle.kinds.specs.declared.bond.Bond.{Bond}
use Rattle.kinds.specs.declared.guarantee.Guarantee.{Guarantee}

pub same_guarantee : (g h : Guarantee) → g.expiry ≡ h.expiry → g.left ≡ h.left → g ≡ h
same_guarantee g h e l = λ i. record {
  expiry = e i;
  left = l i;
  days = is_prop→PathP (λ j. e j ≤ last_expiry) (λ j. le_prop) g.days h.days i;
  most = is_prop→PathP (λ j. l j ≤ top_thousands * thousand) (λ j. le_prop) g.most h.most i;
}

pub same_bond : (b c : Bond) → b.expiry ≡ c.expiry → b.blocks ≡ c.blocks → b ≡ c
same_bond b c e l = λ i. record {
  expiry = e i;
  blocks = l i;
  days = is_prop→PathP (λ j. e j ≤ last_expiry) (λ j. le_prop) b.days c.days i;
  most = is_prop→PathP (λ j. l j ≤ top_blocks) (λ j. le_prop) b.most c.most i;
}
