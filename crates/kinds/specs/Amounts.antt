-- The amounts that a pledge is made for.
use Rattle.std.specs.Prelude.{ℕ, ◌*◌, ◌/◌, ◌≤◌}

-- a thousand dollars, in cents
abbrev pub thousand : ℕ
thousand = 100000

-- the most thousands of dollars that one guarantee is for
abbrev pub top_thousands : ℕ
top_thousands = 1000000

-- the most blocks of one bond pledge
abbrev pub top_blocks : ℕ
top_blocks = 10000

-- the face of a block, in cents: 100,000 dollars
abbrev pub face : ℕ
face = 10000000

-- a block is covered at nine tenths of its face
abbrev pub block_cover : ℕ
block_cover = face * 9 / 10

-- An amount in range: 1 up to the most.
pub record Within (top n : ℕ) : Type 0 where
  pub low : 1 ≤ n
  pub high : n ≤ top
