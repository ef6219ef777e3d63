-- The measures of what stands at an account place.
use Rattle.std.specs.Prelude.{◌≡◌, ℕ, ◌+◌, Bool, ◌&&◌, ℤ, pos, ◌+ℤ◌, ◌-ℤ◌, ◌≤ℤ◌, ◌<ℤ◌, Some, None, Option, int_lt, nat_lt}
use Rattle.lending.specs.declared.account.Account.{Account}
use Rattle.lending.specs.Measures.{floor_of, target_of}
use Rattle.table.specs.declared.table.Table.{Table}
use Rattle.table.specs.Tables.{account_at, price_at}
use Rattle.table.specs.Accounts.{owed_of, applied_of, balance_of}
use Rattle.margin.specs.Backing.{Backing}

-- the price of the account's security
abbrev pub price_of : Table → Option Account → ℕ
price_of t None = 0
price_of t (Some a) = price_at t a.security

-- cover: the balance, and what the account's pledges cover
abbrev pub covered : Option Account → ℕ → ℤ
covered o pledged = balance_of o +ℤ pos pledged

-- the least cover that gets no notice, and the cover that meets one
abbrev pub floor_on : Table → Option Account → ℕ
floor_on t o = floor_of (owed_of o) (applied_of o) (price_of t o)

abbrev pub target_on : Table → Option Account → ℕ
target_on t o = target_of (owed_of o) (applied_of o) (price_of t o)

-- the same of the account at a place, today
abbrev pub cover_at : Backing → Table → ℕ → ℤ
cover_at b t place = covered (account_at t place) (b.covers place t.day)

abbrev pub floor_at : Table → ℕ → ℕ
floor_at t place = floor_on t (account_at t place)

abbrev pub target_at : Table → ℕ → ℕ
target_at t place = target_on t (account_at t place)

-- all units, owed and applied for
abbrev pub units_of : Option Account → ℕ
units_of o = owed_of o + applied_of o

-- short: there are units, and cover is below the floor; the account's pledges cover so much
abbrev pub short : Table → Option Account → ℕ → Bool
short t o pledged = nat_lt 0 (units_of o) && int_lt (covered o pledged) (pos (floor_on t o))

abbrev pub short_at : Backing → Table → ℕ → Bool
short_at b t place = short t (account_at t place) (b.covers place t.day)

-- what cover lacks to a measure: nothing where it reaches it
abbrev pub Lacks : ℕ → ℤ → Option ℤ → Type 0
Lacks measure cover None = pos measure ≤ℤ cover
Lacks measure cover (Some lack) = (cover <ℤ pos measure) × (lack ≡ (pos measure -ℤ cover))
