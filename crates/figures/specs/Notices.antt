-- Worked figures of margin calls: what owed units are measured by, who gets a notice, and what an examination finds.
use Rattle.std.specs.Prelude.{◌≡◌, ℕ, ◌<◌, true, false, ℤ, pos, Some, None, Ok, Option}
use Rattle.bits.specs.Bit.{bit}
use Rattle.lending.specs.declared.account.Account.{Account}
use Rattle.lending.specs.Sound.{account_places}
use Rattle.table.specs.declared.table.Table.{Table}
use Rattle.table.specs.Tables.{account_at, price_at}
use Rattle.margin.specs.Backing.{Backing}
use Rattle.margin.specs.Margins.{cover_at}
use Rattle.margin.specs.Notices.{ten_act}
use Rattle.book.specs.declared.examined.Examined.{Examined}
use Rattle.book.specs.declared.examined.Examined.TheVariants.{Met, Short}
use Rattle.book.specs.Examinations.{Examination}
use Rattle.figures.specs.declared.margin_calls.NoticeFigures.{NoticeFigures}

abbrev pub worked : NoticeFigures
worked = record { floor = 107000000; target = 114000000 }

-- ten units are owed, of a share that costs 100 dollars
pub record TenOwed (t : Table) (place : ℕ) (a : Account) : Type 0 where
  pub known : place < account_places
  pub is : account_at t place ≡ Some a
  pub owed : a.owed ≡ 10
  pub applied : a.applied ≡ 0
  pub priced : price_at t a.security ≡ 10000

-- the cents that an examination finds lacking, if the notice is not met
abbrev pub lack_found : Examined → Option ℤ
lack_found Met = None
lack_found (Short lack slip) = Some lack

pub record NoticeFiguresHold : Type 0 where
  -- ten units owed, and cover at the floor: no notice at ten
  pub no_notice : (t : Table) (b : Backing) (place : ℕ) (a : Account) → TenOwed t place a → cover_at b t place ≡ pos 107000000 →
      bit ((ten_act b).done t).notices place ≡ false
  -- one cent less: a notice
  pub notice : (t : Table) (b : Backing) (place : ℕ) (a : Account) → TenOwed t place a → cover_at b t place ≡ pos 106999999 →
      bit ((ten_act b).done t).notices place ≡ true
  -- and an examination then finds 7,000,001 cents lacking
  pub lacking : (t u : Table) (b : Backing) (place : ℕ) (a : Account) (found : Examined) → TenOwed t place a → cover_at b t place ≡ pos 106999999 →
      Examination b place t u (Ok found) → lack_found found ≡ Some (pos 7000001)
