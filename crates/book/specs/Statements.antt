-- What the book tells of an account.
use Rattle.std.specs.Prelude.{◌≡◌, ℕ, ◌+◌, Bool, not, ◌||◌, List, [], ◌∷◌, length, pos, ◌-ℤ◌, Some, None, Ok, Err, Option, Result, nat_le}
use Rattle.pledge.specs.Numbers.{Numbers}
use Rattle.shelf.specs.declared.held.Held.{Held}
use Rattle.shelf.specs.Places.{cover_of}
use Rattle.lending.specs.declared.account.Account.{Account}
use Rattle.table.specs.declared.refusal.Refusal.{Refusal}
use Rattle.table.specs.declared.refusal.Refusal.TheVariants.{NoSuchPlace, PlaceEmpty}
use Rattle.table.specs.declared.table.Table.{Table}
use Rattle.table.specs.Act.{Answered, first as first_cause}
use Rattle.table.specs.Tables.{account_at, taken}
use Rattle.lending.specs.Sound.{account_places}
use Rattle.table.specs.Accounts.{owed_of, applied_of, barred_of, balance_of}
use Rattle.margin.specs.Backing.{cut}
use Rattle.margin.specs.Margins.{covered, floor_on, target_on}
use Rattle.book.specs.declared.statement.Statement.{Statement}

-- the statement of what stands at a place, where the account's pledges cover so much
abbrev pub stated : Table → Option Account → ℕ → Statement
stated t o pledged = record {
  loan = record { owed = owed_of o; applied = applied_of o; barred = barred_of o };
  money = record {
    balance = balance_of o;
    cover = covered o pledged;
    floor = floor_on t o;
    target = target_on t o;
    headroom = covered o pledged -ℤ pos (floor_on t o);
  };
}

abbrev pub statement_of : Table → ℕ → ℕ → Statement
statement_of t account pledged = stated t (account_at t account) pledged

abbrev pub statement_causes : Table → ℕ → ℕ → ℕ → List (Bool × Refusal)
statement_causes t first second account =
    (cut first second || nat_le account_places account, NoSuchPlace)
    ∷ (not (taken (account_at t account)), PlaceEmpty)
    ∷ []

-- what the account's pledges on the two shelves cover today
abbrev pub pledged_on : {P Q : Type 0} → Numbers P → Numbers Q → Table → List (Option (Held P)) → List (Option (Held Q)) → ℕ → ℕ
pledged_on n m t first second account = cover_of n first account t.day + cover_of m second account t.day

-- the answer to the question: the statement, or why there is none
abbrev pub Stated : {P Q : Type 0} → Numbers P → Numbers Q → Table → List (Option (Held P)) → List (Option (Held Q)) → ℕ → Result Statement Refusal → Type 0
Stated n m t first second account =
    Answered (first_cause (statement_causes t (length first) (length second) account)) (statement_of t account (pledged_on n m t first second account))

-- the account at a place, or why there is nothing to tell
abbrev pub Found : Option Refusal → Option Account → Result Account Refusal → Type 0
Found cause o (Ok a) = (cause ≡ None) × (o ≡ Some a)
Found cause o (Err e) = cause ≡ Some e
