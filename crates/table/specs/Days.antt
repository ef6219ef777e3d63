-- A day begins.
use Rattle.std.specs.Prelude.{ℕ, ◌+◌, Bool, true, not, ◌&&◌, ◌||◌, List, [], ◌∷◌, nat_le}
use Rattle.lending.specs.Measures.{top_price}
use Rattle.table.specs.declared.hour.Hour.TheVariants.{Morning}
use Rattle.table.specs.declared.refusal.Refusal.{Refusal}
use Rattle.table.specs.declared.refusal.Refusal.TheVariants.{OutOfRange, WrongHour, LastDay}
use Rattle.table.specs.declared.table.Table.{Table}
use Rattle.table.specs.Act.{Act, first, outside}
use Rattle.table.specs.Tables.{blank, afternoon}
use Rattle.table.specs.Limits.{last_day}

-- every price is 1 up to the highest
abbrev pub all_priced : List ℕ → Bool
all_priced [] = true
all_priced (price ∷ prices) = not (outside 1 top_price price) && all_priced prices

abbrev pub open_causes : List ℕ → Table → List (Bool × Refusal)
open_causes prices t =
    (not (all_priced prices), OutOfRange)
    ∷ (not (blank t.hour || afternoon t.hour), WrongHour)
    ∷ (nat_le last_day t.day, LastDay)
    ∷ []

-- open: the next day's morning, at these prices
abbrev pub open_act : List ℕ → Act Table ℕ
open_act prices = record {
  cause = λ t. first (open_causes prices t);
  value = λ t. t.day + 1;
  done = λ t. record { day = t.day + 1; hour = Morning; prices = prices; accounts = t.accounts; offers = t.offers; notices = t.notices; slips = t.slips };
}
