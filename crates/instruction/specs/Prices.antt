-- The eight prices of an opening, four bytes each.
use Rattle.std.specs.Prelude.{◌≡◌, ℕ, List, [], ◌∷◌, length, Some, None, Option}
use Rattle.cursor.specs.Bytes.{be32}

abbrev pub prices_of : List ℕ → List ℕ
prices_of bs = be32 bs 0 ∷ be32 bs 4 ∷ be32 bs 8 ∷ be32 bs 12 ∷ be32 bs 16 ∷ be32 bs 20 ∷ be32 bs 24 ∷ be32 bs 28 ∷ []

-- a part has prices exactly where it is 32 bytes long
abbrev pub EightPrices : Option (List ℕ) → List ℕ → Type 0
EightPrices (Some prices) bs = (length bs ≡ 32) × (prices ≡ prices_of bs)
EightPrices None bs = length bs ≡ 32 → ⊥
