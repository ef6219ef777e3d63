-- What a loan has to be covered with, in cents; a price is in cents for each share.
use Rattle.std.specs.Prelude.{ℕ, ◌+◌, ◌*◌, ◌/◌}

-- the shares in a unit
abbrev pub shares : ℕ
shares = 1000

-- what one cent of price comes to for a unit, at so many per cent of its value
abbrev pub per_cent : ℕ → ℕ
per_cent n = n * shares / 100

-- 107 per cent of what is owed and 120 per cent of what is applied for: with less cover an account gets a notice
abbrev pub floor_of : ℕ → ℕ → ℕ → ℕ
floor_of owed applied price = (per_cent 107 * owed + per_cent 120 * applied) * price

-- 114 per cent of what is owed and 120 per cent of what is applied for: this much cover meets a notice
abbrev pub target_of : ℕ → ℕ → ℕ → ℕ
target_of owed applied price = (per_cent 114 * owed + per_cent 120 * applied) * price

-- the most units that an account owes and applies for, together
abbrev pub top_units : ℕ
top_units = 1000

-- the highest price
abbrev pub top_price : ℕ
top_price = 1000000

-- no floor or target is above this
abbrev pub top_floor : ℕ
top_floor = per_cent 120 * top_units * top_price
