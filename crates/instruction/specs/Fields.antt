-- What reading the fields of a kind answers.
use Rattle.std.specs.Prelude.{◌≡◌, ℕ, ◌+◌, ◌<◌, ◌≤◌, length, Ok, Err, Result}
use Rattle.cursor.specs.declared.cursor.Cursor.{Cursor}
use Rattle.cursor.specs.declared.cursor.Short.{Short}
use Rattle.cursor.specs.Took.{Moved}
use Rattle.instruction.specs.declared.instruction.Instruction.{Instruction}
use Rattle.instruction.specs.Said.{told}
use Rattle.instruction.specs.Kinds.{width, said}

-- what the fields of the kind say, and the cursor past them; or the bytes end before the fields do
abbrev pub Fields : ℕ → Cursor → Result Instruction Short → Cursor → Type 0
Fields kind before (Ok v) after = (told v ≡ said kind before.bytes.now before.at) × (before.at + width kind ≤ length before.bytes.now) × Moved (width kind) before after
Fields kind before (Err e) after = (length before.bytes.now < before.at + width kind) × (e.place ≡ before.start)
