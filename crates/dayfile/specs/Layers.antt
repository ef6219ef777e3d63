-- What a fault of one layer is to the layer above: its cause and its place are kept.
use Rattle.cursor.specs.declared.cursor.Short.{Short}
use Rattle.instruction.specs.declared.unread.Unread.{Unread}
use Rattle.instruction.specs.declared.unread.Unread.TheVariants as field
use Rattle.dayfile.specs.declared.fault.FileCause.{FileCause}
use Rattle.dayfile.specs.declared.fault.RecordCause.TheVariants as cause
use Rattle.dayfile.specs.declared.fault.RecordFault.{RecordFault}
use Rattle.dayfile.specs.declared.fault.RecordFault.TheVariants as record_fault
use Rattle.dayfile.specs.declared.fault.Fault.{Fault}
use Rattle.dayfile.specs.declared.fault.Fault.TheVariants as fault

-- a record that ends before its kind has no byte past its length
abbrev pub emptied : Short → RecordFault
emptied s = record_fault.Length s.place

-- fields that cannot be read
abbrev pub unread : Unread → RecordFault
unread (field.Kind place) = record_fault.Kind place
unread (field.Short place) = record_fault.Length place

-- a fault inside a record whose bytes are all there
abbrev pub inside : RecordFault → Fault
inside (record_fault.Length place) = fault.Record cause.Length place
inside (record_fault.Kind place) = fault.Record cause.Kind place
inside (record_fault.Memo place) = fault.Memo place

-- a record that the end of the file cuts off
abbrev pub cut_off : Short → Fault
cut_off s = fault.Record cause.Ends s.place

-- a fault of the file as a whole
abbrev pub whole_file : FileCause → Fault
whole_file cause = fault.File cause
