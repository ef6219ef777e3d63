-- What stands at the place i of a list of bytes: numbers, the high byte first, and parts.
use Rattle.std.specs.Prelude.{ℕ, ◌+◌, ◌*◌, List, take, drop, slice_index}

abbrev pub byte : List ℕ → ℕ → ℕ
byte bs i = slice_index bs i

abbrev pub be16 : List ℕ → ℕ → ℕ
be16 bs i = byte bs i * 256 + byte bs (i + 1)

abbrev pub be32 : List ℕ → ℕ → ℕ
be32 bs i = byte bs i * 16777216 + byte bs (i + 1) * 65536 + byte bs (i + 2) * 256 + byte bs (i + 3)

abbrev pub be64 : List ℕ → ℕ → ℕ
be64 bs i = byte bs i * 72057594037927936 + byte bs (i + 1) * 281474976710656 + byte bs (i + 2) * 1099511627776 + byte bs (i + 3) * 4294967296 + byte bs (i + 4) * 16777216 + byte bs (i + 5) * 65536 + byte bs (i + 6) * 256 + byte bs (i + 7)

-- the n bytes from the place i on
abbrev pub part : List ℕ → ℕ → ℕ → List ℕ
part bs i n = take n (drop i bs)
