-- An account that is short is bought in.
use Rattle.std.specs.Prelude.{◌≡◌, ℕ, ◌+◌, ◌-◌, ◌*◌, ◌≤◌, length, ℤ, Some, None, Ok, Err, Result}
use Rattle.pledge.specs.Numbers.{Numbers}
use Rattle.shelf.specs.Limits.{top_cover}
use Rattle.draw.specs.Draws.{DrawTold, drawn, yielded}
use Rattle.table.specs.Act.{Act, first}
use Rattle.table.specs.Accounts.{balance_of, owed_of}
use Rattle.table.specs.Tables.{account_at}
use Rattle.margin.specs.declared.execution.Execution.{Execution}
use Rattle.margin.specs.BuyIns.{buy_in_causes, bought_in, cost_of, passes, settled}
use Rattle.book.specs.declared.handed_back.HandedBack.{HandedBack}
use Rattle.book.specs.declared.slip.Slip.{Slip}
use Rattle.book.specs.Shelves.{Shelves, both}
use Rattle.book.specs.States.{State, state}

-- the same as `Acted` for a call on a slip: where it is refused it hands the slip back
abbrev pub ActedOn : {W X : Type 0} → Slip → Act W X → W → W → Result X HandedBack → Type 0
ActedOn slip a before after (Ok x) = (a.cause before ≡ None) × (x ≡ a.value before) × (after ≡ a.done before)
ActedOn slip a before after (Err back) = (a.cause before ≡ Some back.why) × (back.slip ≡ slip) × (after ≡ before)

-- an ask drawn on an account's pledges, on the first shelf and then, for what still lacks, on the second
pub record BothDrawn {P Q : Type 0} (n : Numbers P) (m : Numbers Q) (account day ask price : ℕ) (before after : Shelves P Q) (yields : ℕ) : Type 0 where
  pub yields_is : yields ≡ yielded n before.first account ask day price
      + yielded m before.second account (ask - yielded n before.first account ask day price) day price
  pub after_is : after ≡ both (drawn n before.first account ask day price)
      (drawn m before.second account (ask - yielded n before.first account ask day price) day price)
  pub yields_none : ask ≡ 0 → yields ≡ 0
  pub yields_most : yields ≤ 2 * top_cover
  pub on_first : DrawTold n before.first account ask day price
  pub on_second : DrawTold m before.second account (ask - yielded n before.first account ask day price) day price

module _ {P Q : Type 0} (n : Numbers P) (m : Numbers Q) (account : ℕ) (e : Execution) where
  -- what it costs, and by how much that passes the balance: so much is asked of the first shelf
  abbrev pub cost_in : State P Q → ℕ
  cost_in s = cost_of (owed_of (account_at s.table account)) e

  abbrev pub first_ask : State P Q → ℕ
  first_ask s = passes (balance_of (account_at s.table account)) (cost_in s)

  -- what its pledges yield
  abbrev pub first_yields : State P Q → ℕ
  first_yields s = yielded n s.shelves.first account (first_ask s) s.table.day e.block_price

  -- what still lacks is asked of the second shelf
  abbrev pub second_ask : State P Q → ℕ
  second_ask s = first_ask s - first_yields s

  abbrev pub second_yields : State P Q → ℕ
  second_yields s = yielded m s.shelves.second account (second_ask s) s.table.day e.block_price

  abbrev pub all_yields : State P Q → ℕ
  all_yields s = first_yields s + second_yields s

  -- buy in: units bought and the balance are answered; the account is settled, and its pledges are drawn on
  abbrev pub buy_in_act : Act (State P Q) (ℕ × ℤ)
  buy_in_act = record {
    cause = λ s. first (buy_in_causes (length s.shelves.first) (length s.shelves.second) account e s.table);
    value = λ s. (owed_of (account_at s.table account), settled (balance_of (account_at s.table account)) (cost_in s) (all_yields s));
    done = λ s. state (bought_in account (cost_in s) (all_yields s) s.table)
        (both (drawn n s.shelves.first account (first_ask s) s.table.day e.block_price)
        (drawn m s.shelves.second account (second_ask s) s.table.day e.block_price));
  }

  -- every pledge that is drawn on yields and leaves what the rules of a draw say
  pub record DrawnByRules (s : State P Q) : Type 0 where
    pub on_first : DrawTold n s.shelves.first account (first_ask s) s.table.day e.block_price
    pub on_second : DrawTold m s.shelves.second account (second_ask s) s.table.day e.block_price
