-- What the answers of the readers stand for.
use Rattle.std.specs.Prelude.{◌≡◌, ℕ, ◌+◌, ◌≤◌, length, Some, None, Ok, Err, Option, Result}
use Rattle.instruction.specs.Said.{told}
use Rattle.dayfile.specs.declared.fault.RecordFault.{RecordFault}
use Rattle.dayfile.specs.declared.fault.Fault.{Fault}
use Rattle.dayfile.specs.declared.record.Record.{Record}
use Rattle.dayfile.specs.declared.reader.Reader.{Reader}
use Rattle.dayfile.specs.Layers.{inside}
use Rattle.dayfile.specs.Faults.{tells}
use Rattle.dayfile.specs.Outcome.{Outcome, ends, faults, reads, Reading}

-- a record as a reading
abbrev pub reading : Record → Reading
reading r = record { says = told r.instruction; memo = r.memo.bytes.now; memo_place = r.memo.place }

abbrev pub seen_body : Result Record RecordFault → ℕ → Outcome
seen_body (Ok r) next = reads (reading r) next
seen_body (Err f) next = faults (tells (inside f))

abbrev pub seen : Result (Option Record) Fault → ℕ → Outcome
seen (Ok None) next = ends
seen (Ok (Some r)) next = reads (reading r) next
seen (Err f) next = faults (tells f)

-- where the reader stands then, in the same file: past a record, which has two bytes at least and ends within the file; else where it stood
abbrev pub Stands : Result (Option Record) Fault → Reader → Reader → Type 0
Stands (Ok None) before after = (after.file.now ≡ before.file.now) × (after.at ≡ before.at)
Stands (Ok (Some r)) before after = (after.file.now ≡ before.file.now) × (before.at + 2 ≤ after.at) × (after.at ≤ length before.file.now)
Stands (Err f) before after = (after.file.now ≡ before.file.now) × (after.at ≡ before.at)
