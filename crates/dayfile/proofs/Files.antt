-- A file that does not begin, and one record more handed to a sink.
use Rattle.std.proofs.Common.{◌≡◌, ℕ, ◌≤◌, List, [], ◌∷◌, length, Some, None, Ok, Err, Option, sym}
use Rattle.cursor.specs.Bytes.{byte}
use Rattle.dayfile.specs.declared.fault.FileCause.{FileCause}
use Rattle.dayfile.specs.declared.fault.FileCause.TheVariants as file
use Rattle.dayfile.specs.declared.fault.Fault.{Fault}
use Rattle.dayfile.specs.declared.record.Record.{Record}
use Rattle.dayfile.specs.declared.reader.Reader.{Reader}
use Rattle.dayfile.specs.Layers.{whole_file}
use Rattle.dayfile.specs.Faults.{tells}
use Rattle.dayfile.specs.Outcome.{Reading, read_record}
use Rattle.dayfile.specs.Seen.{seen, reading, Stands}
use Rattle.dayfile.specs.File.{Ending, complete, stopped, Holds, at_end, at_fault, at_record, Means, is_too_long, has_no_version, has_version, Begins, Fed, none, more}

pub not_begun : (bs : List ℕ) (c : FileCause) → Begins (Err c) bs → Means bs [] (stopped (tells (whole_file c)))
not_begun bs file.Version h = has_no_version h.0 h.1
not_begun bs file.TooLong h = is_too_long h

-- from the place p of the file bs on, the sink s takes records and is t then
abbrev pub Onward : {S : Type 0} → (S → Reading → S → Type 0) → List ℕ → ℕ → S → Ending → S → Type 0
Onward takes bs p s e t = (rs : List Reading) × Holds bs p rs e × Fed takes s rs t

pub past_record : (o : Option Record) (r : Record) → o ≡ Some r → (before after : Reader) → Stands (Ok o) before after → Stands (Ok (Some r)) before after
past_record o r is before after h = rw is at h

pub begun : {S : Type 0} (takes : S → Reading → S → Type 0) (bs : List ℕ) (s t : S) (e : Ending) → length bs ≤ 65536 → byte bs 0 ≡ 1 → Onward takes bs 1 s e t → (rs : List Reading) × Means bs rs e × Fed takes s rs t
begun takes bs s t e l v (rs, holds, fed) = (rs, has_version rs e l v holds, fed)

-- the reader held f and stood at p, and stands at q now
module _ {S : Type 0} (takes : S → Reading → S → Type 0) (bs f : List ℕ) (p q : ℕ) (s : S) (same : f ≡ bs) where
  pub on_end : (o : Option Record) → o ≡ None → seen (Ok o) q ≡ read_record f p → Onward takes bs p s complete s
  on_end o is e = ([], at_end p (sym (rw (is, same) at e)), none s)

  pub on_fault : (y : Fault) → seen (Err y) q ≡ read_record f p → Onward takes bs p s (stopped (tells y)) s
  on_fault y e = ([], at_fault p _ (sym (rw same at e)), none s)

  pub on_record : (o : Option Record) (r : Record) → o ≡ Some r → seen (Ok o) q ≡ read_record f p → (t : S) → takes s (reading r) t → (e : Ending) (u : S) → Onward takes bs q t e u → Onward takes bs p s e u
  on_record o r is m t h e u (rs, holds, fed) = (reading r ∷ rs, at_record p _ q rs e (sym (rw (is, same) at m)) holds, more s t u _ rs h fed)
