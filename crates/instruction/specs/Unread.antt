-- Why the fields of a record cannot be read, and what reading them answers.
use Rattle.std.specs.Prelude.{◌≡◌, ℕ, ◌+◌, ◌<◌, true, false, length, Ok, Err, Result}
use Rattle.cursor.specs.declared.cursor.Cursor.{Cursor}
use Rattle.cursor.specs.declared.cursor.Short.{Short}
use Rattle.instruction.specs.declared.instruction.Instruction.{Instruction}
use Rattle.instruction.specs.declared.unread.Unread.{Unread}
use Rattle.instruction.specs.declared.unread.Unread.TheVariants as unread
use Rattle.instruction.specs.Kinds.{known, width}
use Rattle.instruction.specs.Fields.{Fields}

-- a cursor that falls short keeps its place
abbrev pub of_short : Short → Unread
of_short s = unread.Short s.place

-- the kind is known and its fields are read; or it is unknown; or its fields are longer than what is left
abbrev pub Instructs : ℕ → Cursor → Result Instruction Unread → Cursor → Type 0
Instructs kind before (Ok v) after = (known kind ≡ true) × Fields kind before (Ok v) after
Instructs kind before (Err (unread.Kind place)) after = (known kind ≡ false) × (place ≡ before.start)
Instructs kind before (Err (unread.Short place)) after = (known kind ≡ true) × (length before.bytes.now < before.at + width kind) × (place ≡ before.start)
