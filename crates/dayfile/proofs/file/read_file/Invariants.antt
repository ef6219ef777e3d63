use Rattle.std.proofs.Common.{◌≡◌, ◌-◌, ◌≤◌, length}
use Rattle.dayfile.specs.File.{Ending}
use Rattle.dayfile.proofs.Files.{Onward}
use Rattle.dayfile.proofs.file.read_file.Given as goal

-- what the rest of the file hands on from here, the whole file hands on from its first record
abbrev pub invariant-loop-record : goal.invariant-loop-record
invariant-loop-record g l =
    (l.reader.file.now ≡ l.file) × (l.reader.at ≤ length l.file)
    × ((e : Ending) (t : g.row.S.Denot) → Onward g.S.Sink.takes l.file l.reader.at l.sink e t → Onward g.S.Sink.takes l.file 1 l.initial.sink e t)

abbrev pub decreases-loop-record : goal.decreases-loop-record
decreases-loop-record g l = length l.file - l.reader.at
