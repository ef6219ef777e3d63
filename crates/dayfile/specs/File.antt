-- What a whole file means: its records, in order, and then its end or its first fault.
use Rattle.std.specs.Prelude.{◌≡◌, ℕ, ◌<◌, ◌≤◌, List, [], ◌∷◌, length, Ok, Err, Result, ◌≢◌}
use Rattle.cursor.specs.Bytes.{byte}
use Rattle.dayfile.specs.declared.fault.Told.{Told}
use Rattle.dayfile.specs.declared.fault.FileCause.{FileCause}
use Rattle.dayfile.specs.declared.fault.FileCause.TheVariants as file
use Rattle.dayfile.specs.declared.fault.Fault.{Fault}
use Rattle.dayfile.specs.declared.reader.Reader.{Reader}
use Rattle.dayfile.specs.Limits.{version, most_bytes}
use Rattle.dayfile.specs.Faults.{tells, no_version, too_long}
use Rattle.dayfile.specs.Outcome.{ends, faults, reads, Reading, read_record}

-- how reading comes to an end
pub data Ending : Type 0 where
  complete : Ending
  stopped : Told → Ending

-- from the place p on, the file bs has these records and ends so
pub data Holds (bs : List ℕ) : ℕ → List Reading → Ending → Type 0 where
  at_end : (p : ℕ) → read_record bs p ≡ ends → Holds bs p [] complete
  at_fault : (p : ℕ) (f : Told) → read_record bs p ≡ faults f → Holds bs p [] (stopped f)
  at_record : (p : ℕ) (r : Reading) (next : ℕ) (rs : List Reading) (e : Ending) → read_record bs p ≡ reads r next → Holds bs next rs e → Holds bs p (r ∷ rs) e

-- the file bs has these records and ends so: a file has at most 65,536 bytes, and the first is the version, 1
pub data Means (bs : List ℕ) : List Reading → Ending → Type 0 where
  is_too_long : most_bytes < length bs → Means bs [] (stopped too_long)
  has_no_version : length bs ≤ most_bytes → (byte bs 0 ≢ version) → Means bs [] (stopped no_version)
  has_version : (rs : List Reading) (e : Ending) → length bs ≤ most_bytes → byte bs 0 ≡ version → Holds bs 1 rs e → Means bs rs e

-- how a file begins
abbrev pub Begins : Result (Unit {0}) FileCause → List ℕ → Type 0
Begins (Ok u) bs = (length bs ≤ most_bytes) × (byte bs 0 ≡ version)
Begins (Err file.Version) bs = (length bs ≤ most_bytes) × (byte bs 0 ≢ version)
Begins (Err file.TooLong) bs = most_bytes < length bs

-- what opening a file answers
abbrev pub Opened : Result Reader Fault → List ℕ → Type 0
Opened (Ok reader) bs = (length bs ≤ most_bytes) × (byte bs 0 ≡ version) × (reader.file.now ≡ bs) × (reader.at ≡ 1)
Opened (Err f) bs = Means bs [] (stopped (tells f))

-- a sink takes these records, one after the other
pub data Fed {S : Type 0} (takes : S → Reading → S → Type 0) : S → List Reading → S → Type 0 where
  none : (s : S) → Fed takes s [] s
  more : (s t u : S) (r : Reading) (rs : List Reading) → takes s r t → Fed takes t rs u → Fed takes s (r ∷ rs) u

abbrev pub ending : Result (Unit {0}) Fault → Ending
ending (Ok u) = complete
ending (Err f) = stopped (tells f)

-- the sink took exactly the records of the file, and the answer says how they end
abbrev pub Handed : {S : Type 0} → (S → Reading → S → Type 0) → List ℕ → S → Result (Unit {0}) Fault → S → Type 0
Handed takes bs s r t = (rs : List Reading) × Means bs rs (ending r) × Fed takes s rs t

-- the file has one meaning only
abbrev pub OneMeaning : List ℕ → Type 0
OneMeaning bs = (rs ss : List Reading) (e f : Ending) → Means bs rs e → Means bs ss f → (rs ≡ ss) × (e ≡ f)
