-- Who gets a notice with ten units owed at a price of 10,000.
use Rattle.std.proofs.Common.{◌≡◌, ℕ, true, false, ◌&&◌, ltb, ℤ, pos, ◌-ℤ◌, Some, Ok, ap, ◌∙◌, arith}
use lib.Signed.{lt_z}
use Rattle.std.proofs.lemmas.Int.{ints}
use Rattle.bits.specs.Bit.{bit}
use Rattle.bits.proofs.Words.{bit_word}
use Rattle.lending.specs.declared.account.Account.{Account}
use Rattle.table.specs.declared.table.Table.{Table}
use Rattle.lending.specs.Sound.{account_places}
use Rattle.table.specs.Tables.{account_at}
use Rattle.margin.specs.Backing.{Backing}
use Rattle.margin.specs.Margins.{cover_at, floor_at, floor_on, target_at, target_on, units_of, short_at}
use Rattle.margin.specs.Notices.{ten_act}
use Rattle.book.specs.declared.examined.Examined.{Examined}
use Rattle.book.specs.declared.examined.Examined.TheVariants.{Met, Short}
use Rattle.book.specs.Examinations.{Examination}
use Rattle.figures.specs.Notices.{TenOwed, lack_found}

module _ (t : Table) (place : ℕ) (a : Account) (o : TenOwed t place a) where
  ten_units : units_of (account_at t place) ≡ 10
  ten_units = ap units_of o.is ∙ omega (arith, o.owed, o.applied)

  the_floor : floor_at t place ≡ 107000000
  the_floor = ap (floor_on t) o.is ∙ rw (o.owed, o.applied, o.priced)

  the_target : target_at t place ≡ 114000000
  the_target = ap (target_on t) o.is ∙ rw (o.owed, o.applied, o.priced)

  -- with so much cover the account is short where that is below the floor
  at_ten : (b : Backing) (cover : ℤ) → cover_at b t place ≡ cover → bit ((ten_act b).done t).notices place ≡ lt_z cover (pos 107000000)
  at_ten b cover is =
      bit_word (λ k. short_at b t k) account_places place o.known
      ∙ ap (λ (u : ℕ). ltb 0 u && lt_z (cover_at b t place) (pos (floor_at t place))) ten_units
      ∙ ap (λ (f : ℕ). lt_z (cover_at b t place) (pos f)) the_floor
      ∙ ap (λ (z : ℤ). lt_z z (pos 107000000)) is

pub unnoticed : (t : Table) (b : Backing) (place : ℕ) (a : Account) → TenOwed t place a → cover_at b t place ≡ pos 107000000 →
    bit ((ten_act b).done t).notices place ≡ false
unnoticed t b place a o is = at_ten t place a o b (pos 107000000) is

pub noticed : (t : Table) (b : Backing) (place : ℕ) (a : Account) → TenOwed t place a → cover_at b t place ≡ pos 106999999 →
    bit ((ten_act b).done t).notices place ≡ true
noticed t b place a o is = at_ten t place a o b (pos 106999999) is

pub lacks : (t u : Table) (b : Backing) (place : ℕ) (a : Account) (found : Examined) → TenOwed t place a → cover_at b t place ≡ pos 106999999 →
    Examination b place t u (Ok found) → lack_found found ≡ Some (pos 7000001)
lacks t u b place a Met o is d = absurd (omega (arith, ints, is, the_target t place a o, d.1))
lacks t u b place a (Short lack slip) o is d =
    ap (λ (z : ℤ). Some z) (d.1.1 ∙ ap (λ (x : ℕ). pos x -ℤ cover_at b t place) (the_target t place a o) ∙ ap (λ (z : ℤ). pos 114000000 -ℤ z) is)
