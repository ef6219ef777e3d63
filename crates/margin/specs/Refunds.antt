-- Paying an account out and closing it.
use Rattle.std.specs.Prelude.{◌≡◌, ℕ, ◌<◌, Bool, not, ◌||◌, List, [], ◌∷◌, ℤ, pos, negsuc, ◌≤ℤ◌, Some, int_lt, nat_le, nat_lt}
use Rattle.lending.specs.declared.account.Account.{Account}
use Rattle.lending.specs.Sound.{account_places}
use Rattle.table.specs.declared.hour.Hour.TheVariants.{Afternoon}
use Rattle.table.specs.declared.refusal.Refusal.{Refusal}
use Rattle.table.specs.declared.refusal.Refusal.TheVariants.{NoSuchPlace, WrongHour, PlaceEmpty, NotSettled}
use Rattle.table.specs.declared.table.Table.{Table}
use Rattle.table.specs.Accounts.{balance_of}
use Rattle.table.specs.Tables.{account_at, afternoon, taken}
use Rattle.margin.specs.Backing.{cut}
use Rattle.margin.specs.Margins.{units_of}

abbrev pub refund_causes : ℕ → ℕ → ℕ → Table → List (Bool × Refusal)
refund_causes first_places second_places account t =
    (cut first_places second_places || nat_le account_places account, NoSuchPlace)
    ∷ (not (afternoon t.hour), WrongHour)
    ∷ (not (taken (account_at t account)), PlaceEmpty)
    ∷ (nat_lt 0 (units_of (account_at t account)) || int_lt (balance_of (account_at t account)) (pos 0), NotSettled)
    ∷ []

-- the cents of a balance that is no debt
abbrev pub cents_of : ℤ → ℕ
cents_of (pos n) = n
cents_of (negsuc n) = 0

-- an account at a place that may be paid out and closed
pub record Refundable (t : Table) (place : ℕ) (a : Account) : Type 0 where
  pub known : place < account_places
  pub is : account_at t place ≡ Some a
  pub in_afternoon : t.hour ≡ Afternoon
  pub in_credit : pos 0 ≤ℤ a.balance
