-- How many places there are, and how large a number may be.
use Rattle.std.specs.Prelude.{ℕ}

-- the last day
abbrev pub last_day : ℕ
last_day = 60000

-- firms are numbered 1 up to this
abbrev pub top_firm : ℕ
top_firm = 9999

-- the most cents of one deposit
abbrev pub top_deposit : ℕ
top_deposit = 10000000000000
