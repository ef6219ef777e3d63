-- Tests and measures: what a test that came out so or so says.
use Rattle.std.proofs.Common.{◌≡◌, ℕ, ◌≤◌, true, false, not, ltb, ℤ, pos, negsuc, ◌+ℤ◌, ◌≤ℤ◌, ◌<ℤ◌, Option, refl, ap, ◌∙◌, mul-le-mul_right, arith}
use lib.Signed.{lt_z}
use Rattle.std.proofs.lemmas.Int.{ints}
use Rattle.std.proofs.lemmas.Bool.{true≢false, and_parts, and_from}
use Rattle.lending.specs.declared.account.Account.{Account}
use Rattle.table.specs.declared.hour.Hour.{Hour}
use Rattle.table.specs.declared.hour.Hour.TheVariants.{Blank, Morning, Calling, Afternoon}
use Rattle.table.specs.declared.table.Table.{Table}
use Rattle.table.specs.Tables.{morning, calling, afternoon}
use Rattle.margin.specs.Refunds.{cents_of}
use Rattle.margin.specs.Margins.{price_of, covered, floor_on, target_on, units_of, short}

-- what is done in the morning is not done in the calling hour
pub in_morning : (h : Hour) → not (morning h) ≡ false → calling h ≡ false
in_morning Blank e = refl
in_morning Morning e = refl
in_morning Calling e = absurd (true≢false e)
in_morning Afternoon e = refl

-- nor what is done in the afternoon
pub in_afternoon : (h : Hour) → not (afternoon h) ≡ false → calling h ≡ false
in_afternoon Blank e = refl
in_afternoon Morning e = refl
in_afternoon Calling e = absurd (true≢false e)
in_afternoon Afternoon e = refl

-- what is no debt is paid in full
pub credit : (z : ℤ) → lt_z z (pos 0) ≡ false → (pos 0 +ℤ pos (cents_of z)) ≡ z
credit (pos n) e = omega (arith, ints)
credit (negsuc n) e = absurd (true≢false e)

pub reached : (cover : ℤ) (measure : ℕ) → pos measure ≤ℤ cover → lt_z cover (pos measure) ≡ false
reached cover measure h = grind (arith, ints)

pub missed : (cover : ℤ) (measure : ℕ) → cover <ℤ pos measure → lt_z cover (pos measure) ≡ true
missed cover measure h = grind (arith, ints)

pub is_below : (cover : ℤ) (measure : ℕ) → lt_z cover (pos measure) ≡ true → cover <ℤ pos measure
is_below cover measure h = grind (arith, ints)

pub is_reached : (cover : ℤ) (measure : ℕ) → lt_z cover (pos measure) ≡ false → pos measure ≤ℤ cover
is_reached cover measure h = grind (arith, ints)

-- no floor is above the target
pub floor_most : (t : Table) (o : Option Account) → floor_on t o ≤ target_on t o
floor_most t o = mul-le-mul_right (price_of t o) (omega arith)

-- an account with cover at the target or above is not short
pub not_short : (t : Table) (o : Option Account) (pledged : ℕ) → pos (target_on t o) ≤ℤ covered o pledged → short t o pledged ≡ true → ⊥
not_short t o pledged h s =
    let floor = floor_most t o in
    let low = is_below (covered o pledged) (floor_on t o) (and_parts (ltb 0 (units_of o)) (lt_z (covered o pledged) (pos (floor_on t o))) s).1 in
    omega (arith, ints)

-- one that is short with so much cover is short with less
pub short_with_less : (t : Table) (o u : Option Account) (pledged more : ℕ) → units_of o ≡ units_of u → floor_on t o ≡ floor_on t u →
    covered o pledged ≤ℤ covered u more → short t u more ≡ true → short t o pledged ≡ true
short_with_less t o u pledged more units floor less s =
    let parts = and_parts (ltb 0 (units_of u)) (lt_z (covered u more) (pos (floor_on t u))) s in
    let low = is_below (covered u more) (floor_on t u) parts.1 in
    and_from (ltb 0 (units_of o)) (lt_z (covered o pledged) (pos (floor_on t o))) (ap (ltb 0) units ∙ parts.0) (missed (covered o pledged) (floor_on t o) (omega (arith, ints)))
