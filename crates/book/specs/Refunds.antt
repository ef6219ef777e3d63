-- An account is paid out and closed.
use Rattle.std.specs.Prelude.{ℕ, length, None}
use Rattle.shelf.specs.Places.{cleared}
use Rattle.table.specs.Act.{Act, first}
use Rattle.table.specs.Accounts.{balance_of}
use Rattle.table.specs.Tables.{account_at, with_account}
use Rattle.margin.specs.Refunds.{refund_causes, cents_of}
use Rattle.book.specs.Shelves.{both}
use Rattle.book.specs.States.{State, state}

-- refund: the balance is paid and answered, the account's pledges are handed back, and its place is empty
abbrev pub refund_act : {P Q : Type 0} → ℕ → Act (State P Q) ℕ
refund_act account = record {
  cause = λ s. first (refund_causes (length s.shelves.first) (length s.shelves.second) account s.table);
  value = λ s. cents_of (balance_of (account_at s.table account));
  done = λ s. state (with_account s.table account None) (both (cleared account s.shelves.first) (cleared account s.shelves.second));
}
