-- Buying in: what it costs, what lacks, and what it leaves of an account.
use Rattle.std.specs.Prelude.{◌≡◌, ℕ, suc, ◌+◌, ◌-◌, ◌*◌, ◌≤◌, Bool, true, cond, not, ◌||◌, List, [], ◌∷◌, ℤ, pos, negsuc, ◌+ℤ◌, ◌-ℤ◌, Some, None, Ok, Err, Option, Result, ◌==◌, nat_lt, slice_set}
use Rattle.std.specs.Option.{option_map}
use Rattle.pledge.specs.Limits.{top_block_price}
use Rattle.bits.specs.Bit.{bit, without_bit}
use Rattle.lending.specs.declared.account.Account.{Account}
use Rattle.lending.specs.Measures.{shares}
use Rattle.lending.specs.Sound.{SoundAccount, top_share_price, top_charges, top_cost}
use Rattle.shelf.specs.Limits.{shelf_places, top_cover}
use Rattle.table.specs.declared.refusal.Refusal.{Refusal}
use Rattle.table.specs.declared.refusal.Refusal.TheVariants.{NoSuchPlace, OutOfRange, NoNotice}
use Rattle.table.specs.declared.table.Table.{Table}
use Rattle.table.specs.Act.{outside}
use Rattle.table.specs.Tables.{account_at, elevens}
use Rattle.margin.specs.declared.execution.Execution.{Execution}
use Rattle.margin.specs.declared.purchase.Purchase.{Purchase}
use Rattle.margin.specs.Backing.{cut}

-- what it costs to buy the owed units at a share price, with charges: nothing where nothing is owed
abbrev pub cost_at : ℕ → ℕ → ℕ → ℕ
cost_at owed price charges = cond (owed == 0) 0 (shares * (owed * price) + charges)

abbrev pub cost_of : ℕ → Execution → ℕ
cost_of owed e = cost_at owed e.share_price e.charges

-- by how much a cost passes a balance
abbrev pub passes : ℤ → ℕ → ℕ
passes (pos b) cost = cost - b
passes (negsuc b) cost = cost + suc b

-- an execution that is out of range
abbrev pub ill_executed : Execution → Bool
ill_executed e = outside 1 top_share_price e.share_price || nat_lt top_charges e.charges || outside 1 top_block_price e.block_price

abbrev pub buy_in_causes : ℕ → ℕ → ℕ → Execution → Table → List (Bool × Refusal)
buy_in_causes first_places second_places account e t =
    (cut first_places second_places, NoSuchPlace)
    ∷ (ill_executed e, OutOfRange)
    ∷ (not (bit t.slips account), NoNotice)
    ∷ []

-- the balance once the cost came off, and what the pledges yielded came on
abbrev pub settled : ℤ → ℕ → ℕ → ℤ
settled balance cost yields = (balance -ℤ pos cost) +ℤ pos yields

-- an account of which nothing is owed or applied for any more, barred, at a balance
abbrev pub barred_at : ℤ → Account → Account
barred_at balance a = record { firm = a.firm; security = a.security; owed = 0; applied = 0; barred = true; balance = balance }

-- an account that was bought in
abbrev pub bought : ℕ → ℕ → Account → Account
bought cost yields a = barred_at (settled a.balance cost yields) a

-- a table with another account at a place, whose notice is closed and whose slip is out no more
abbrev pub closed_with : Table → ℕ → Option Account → Table
closed_with t place o = record {
  day = t.day;
  hour = t.hour;
  prices = t.prices;
  accounts = slice_set t.accounts place o;
  offers = t.offers;
  notices = without_bit t.notices place;
  slips = without_bit t.slips place;
}

-- the table after a buy in
abbrev pub bought_in : ℕ → ℕ → ℕ → Table → Table
bought_in place cost yields t = closed_with t place (option_map (bought cost yields) (account_at t place))

-- what is bought for the account at a place
pub record Purchasable (t : Table) (first_places second_places place : ℕ) (e : Execution) (p : Purchase) : Type 0 where
  pub first_whole : first_places ≡ shelf_places
  pub second_whole : second_places ≡ shelf_places
  pub is : account_at t place ≡ Some p.account
  pub sound : SoundAccount (elevens t) p.account
  pub priced : p.block_price.cents ≡ e.block_price
  pub cost_is : p.cost ≡ cost_of p.account.owed e
  pub cost_most : p.cost ≤ top_cost
  pub lack_is : p.lack ≡ passes p.account.balance p.cost

-- what is known where a purchase is settled with what the pledges yielded
pub record Settles (t : Table) (place : ℕ) (p : Purchase) (yields : ℕ) : Type 0 where
  pub is : account_at t place ≡ Some p.account
  pub sound : SoundAccount (elevens t) p.account
  pub cost_none : p.account.owed ≡ 0 → p.cost ≡ 0
  pub cost_most : p.cost ≤ top_cost
  pub lack_is : p.lack ≡ passes p.account.balance p.cost
  pub yields_none : p.lack ≡ 0 → yields ≡ 0
  pub yields_most : yields ≤ 2 * top_cover

-- or why it is not
abbrev pub PurchaseFound : Option Refusal → Table → ℕ → ℕ → ℕ → Execution → Result Purchase Refusal → Type 0
PurchaseFound cause t first_places second_places place e (Ok p) = (cause ≡ None) × Purchasable t first_places second_places place e p
PurchaseFound cause t first_places second_places place e (Err why) = cause ≡ Some why
