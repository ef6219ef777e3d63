-- How large a number about a pledge can be.
use Rattle.std.specs.Prelude.{ℕ, ◌≤◌}

-- the highest block price, in cents
abbrev pub top_block_price : ℕ
top_block_price = 20000000

-- the most cents that one pledge covers or can pay, and the largest step
abbrev pub top_cents : ℕ
top_cents = 200000000000

-- the last day that a pledge can expire on
abbrev pub last_expiry : ℕ
last_expiry = 65535

-- A block price is 1 cent up to the highest.
pub record Priced (price : ℕ) : Type 0 where
  pub low : 1 ≤ price
  pub high : price ≤ top_block_price
