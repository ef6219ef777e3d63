-- What taking a field of w bytes does to a cursor.
use Rattle.std.specs.Prelude.{◌≡◌, ℕ, ◌+◌, ◌<◌, ◌≤◌, length, Ok, Err, Result}
use Rattle.cursor.specs.declared.cursor.Cursor.{Cursor}
use Rattle.cursor.specs.declared.cursor.Short.{Short}

-- the same bytes and start, n bytes further on
abbrev pub Moved : ℕ → Cursor → Cursor → Type 0
Moved n before after = (after.bytes.now ≡ before.bytes.now) × (after.start ≡ before.start) × (after.at ≡ before.at + n)

-- the field is there, its value is as P says and the cursor is past it; or the bytes end before, the start is told and the cursor stays
abbrev pub Took : {V : Type 0} → ℕ → (V → Type 0) → Cursor → Result V Short → Cursor → Type 0
Took w P before (Ok v) after = P v × (before.at + w ≤ length before.bytes.now) × Moved w before after
Took w P before (Err e) after = (length before.bytes.now < before.at + w) × (e.place ≡ before.start) × Moved 0 before after
