-- Calls on one account.
use Rattle.std.specs.Prelude.{ℕ, ◌+◌, ◌-◌, Bool, false, not, ◌||◌, List, [], ◌∷◌, ℤ, pos, ◌+ℤ◌, Some, None, Option, int_lt, nat_le, nat_lt}
use Rattle.std.specs.Option.{option_map}
use Rattle.bits.specs.Bit.{bit}
use Rattle.lending.specs.declared.account.Account.{Account}
use Rattle.lending.specs.Measures.{top_units}
use Rattle.lending.specs.Sound.{securities, top_balance, account_places}
use Rattle.table.specs.declared.refusal.Refusal.{Refusal}
use Rattle.table.specs.declared.refusal.Refusal.TheVariants.{NoSuchPlace, OutOfRange, WrongHour, PlaceTaken, PlaceEmpty, Barred, UnitsOutOfReach, UnderSlip, BalanceTooHigh}
use Rattle.table.specs.declared.table.Table.{Table}
use Rattle.table.specs.Limits.{top_firm, top_deposit}
use Rattle.table.specs.Act.{Act, first, outside}
use Rattle.table.specs.Tables.{account_at, blank, morning, taken, with_account}

-- what an account has, and 0 at an empty place
abbrev pub owed_of : Option Account → ℕ
owed_of None = 0
owed_of (Some a) = a.owed

abbrev pub applied_of : Option Account → ℕ
applied_of None = 0
applied_of (Some a) = a.applied

abbrev pub barred_of : Option Account → Bool
barred_of None = false
barred_of (Some a) = a.barred

abbrev pub balance_of : Option Account → ℤ
balance_of None = pos 0
balance_of (Some a) = a.balance

abbrev pub with_owed : ℕ → Account → Account
with_owed n a = record { firm = a.firm; security = a.security; owed = n; applied = a.applied; barred = a.barred; balance = a.balance }

abbrev pub with_applied : ℕ → Account → Account
with_applied n a = record { firm = a.firm; security = a.security; owed = a.owed; applied = n; barred = a.barred; balance = a.balance }

abbrev pub with_balance : ℤ → Account → Account
with_balance z a = record { firm = a.firm; security = a.security; owed = a.owed; applied = a.applied; barred = a.barred; balance = z }

-- a new account
abbrev pub enrolled : ℕ → ℕ → Account
enrolled firm security = record { firm = firm; security = security; owed = 0; applied = 0; barred = false; balance = pos 0 }

abbrev pub enrol_causes : ℕ → ℕ → ℕ → Table → List (Bool × Refusal)
enrol_causes account firm security t =
    (nat_le account_places account || nat_le securities security, NoSuchPlace)
    ∷ (outside 1 top_firm firm, OutOfRange)
    ∷ (not (morning t.hour), WrongHour)
    ∷ (taken (account_at t account), PlaceTaken)
    ∷ []

-- enrol: the place gets firm and security, at balance 0
abbrev pub enrol_act : ℕ → ℕ → ℕ → Act Table (Unit {0})
enrol_act account firm security = record {
  cause = λ t. first (enrol_causes account firm security t);
  value = λ t. tt;
  done = λ t. with_account t account (Some (enrolled firm security));
}

abbrev pub apply_causes : ℕ → ℕ → Table → List (Bool × Refusal)
apply_causes account units t =
    (nat_le account_places account, NoSuchPlace)
    ∷ (outside 1 top_units units, OutOfRange)
    ∷ (not (morning t.hour), WrongHour)
    ∷ (not (taken (account_at t account)), PlaceEmpty)
    ∷ (barred_of (account_at t account), Barred)
    ∷ (nat_lt top_units (owed_of (account_at t account) + applied_of (account_at t account) + units), UnitsOutOfReach)
    ∷ []

-- apply: so many units more are applied for
abbrev pub apply_act : ℕ → ℕ → Act Table ℕ
apply_act account units = record {
  cause = λ t. first (apply_causes account units t);
  value = λ t. applied_of (account_at t account) + units;
  done = λ t. with_account t account (option_map (with_applied (applied_of (account_at t account) + units)) (account_at t account));
}

abbrev pub return_causes : ℕ → ℕ → Table → List (Bool × Refusal)
return_causes account units t =
    (nat_le account_places account, NoSuchPlace)
    ∷ (outside 1 top_units units, OutOfRange)
    ∷ (not (morning t.hour), WrongHour)
    ∷ (not (taken (account_at t account)), PlaceEmpty)
    ∷ (nat_lt (owed_of (account_at t account)) units, UnitsOutOfReach)
    ∷ []

-- return: so many units fewer are owed
abbrev pub return_act : ℕ → ℕ → Act Table ℕ
return_act account units = record {
  cause = λ t. first (return_causes account units t);
  value = λ t. owed_of (account_at t account) - units;
  done = λ t. with_account t account (option_map (with_owed (owed_of (account_at t account) - units)) (account_at t account));
}

abbrev pub deposit_causes : ℕ → ℕ → Table → List (Bool × Refusal)
deposit_causes account cents t =
    (nat_le account_places account, NoSuchPlace)
    ∷ (outside 1 top_deposit cents, OutOfRange)
    ∷ (blank t.hour, WrongHour)
    ∷ (not (taken (account_at t account)), PlaceEmpty)
    ∷ (bit t.slips account, UnderSlip)
    ∷ (int_lt (pos top_balance) (balance_of (account_at t account) +ℤ pos cents), BalanceTooHigh)
    ∷ []

-- deposit: the balance is so many cents higher
abbrev pub deposit_act : ℕ → ℕ → Act Table ℤ
deposit_act account cents = record {
  cause = λ t. first (deposit_causes account cents t);
  value = λ t. balance_of (account_at t account) +ℤ pos cents;
  done = λ t. with_account t account (option_map (with_balance (balance_of (account_at t account) +ℤ pos cents)) (account_at t account));
}
