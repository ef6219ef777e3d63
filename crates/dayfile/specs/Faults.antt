-- What every fault tells: its layer, its number and its place, and what was expected there.
use Rattle.std.specs.Prelude.{ℕ, List, codes}
use Rattle.dayfile.specs.Limits.{most_bytes}
use Rattle.dayfile.specs.declared.fault.Layer.TheVariants as layer
use Rattle.dayfile.specs.declared.fault.Told.{Told}
use Rattle.dayfile.specs.declared.fault.FileCause.{FileCause}
use Rattle.dayfile.specs.declared.fault.FileCause.TheVariants as file
use Rattle.dayfile.specs.declared.fault.RecordCause.{RecordCause}
use Rattle.dayfile.specs.declared.fault.RecordCause.TheVariants as cause
use Rattle.dayfile.specs.declared.fault.Fault.{Fault}
use Rattle.dayfile.specs.declared.fault.Fault.TheVariants as fault

-- the file is empty, or its first byte is not 1
abbrev pub no_version : Told
no_version = record { layer = layer.File; number = 20; place = 0 }

-- the record's length is 0, too small for its kind, or leaves a memo of more than 64 bytes
abbrev pub bad_length : ℕ → Told
bad_length place = record { layer = layer.Record; number = 21; place = place }

-- the record's kind is not 1 to 16
abbrev pub no_kind : ℕ → Told
no_kind place = record { layer = layer.Record; number = 22; place = place }

-- the file ends inside the record
abbrev pub ends_inside : ℕ → Told
ends_inside place = record { layer = layer.Record; number = 23; place = place }

-- a byte of the memo is outside 33 to 126
abbrev pub odd_memo : ℕ → Told
odd_memo place = record { layer = layer.Memo; number = 24; place = place }

-- the file has more than 65,536 bytes
abbrev pub too_long : Told
too_long = record { layer = layer.File; number = 25; place = most_bytes }

abbrev pub tells : Fault → Told
tells (fault.File file.Version) = no_version
tells (fault.File file.TooLong) = too_long
tells (fault.Record cause.Length place) = bad_length place
tells (fault.Record cause.Kind place) = no_kind place
tells (fault.Record cause.Ends place) = ends_inside place
tells (fault.Memo place) = odd_memo place

-- what was expected, in words
abbrev pub file_expects : FileCause → List ℕ
file_expects file.Version = codes "expected a first byte of 1, the version"
file_expects file.TooLong = codes "expected at most 65536 bytes"

abbrev pub record_expects : RecordCause → List ℕ
record_expects cause.Length = codes "expected a length that holds a kind, its fields and a memo of 0 to 64 bytes"
record_expects cause.Kind = codes "expected a kind from 1 to 16"
record_expects cause.Ends = codes "expected the rest of the record before the end of the file"

abbrev pub expects : Fault → List ℕ
expects (fault.File cause) = file_expects cause
expects (fault.Record cause place) = record_expects cause
expects (fault.Memo place) = codes "expected memo bytes from 33 to 126"
