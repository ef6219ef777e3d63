-- The numbers of the format.
use Rattle.std.specs.Prelude.{ℕ}

-- the first byte of a file
abbrev pub version : ℕ
version = 1

-- the most bytes of a file
abbrev pub most_bytes : ℕ
most_bytes = 65536

-- the most bytes of a memo
abbrev pub most_memo : ℕ
most_memo = 64

-- the lowest and the highest byte of a memo
abbrev pub lowest_mark : ℕ
lowest_mark = 33

abbrev pub highest_mark : ℕ
highest_mark = 126
