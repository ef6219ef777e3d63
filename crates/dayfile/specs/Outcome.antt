-- What the bytes of a file mean at a place: no record, a record, or a fault.
use Rattle.std.specs.Prelude.{ℕ, ◌+◌, ◌-◌, Bool, true, false, cond, List, [], ◌∷◌, length, drop, nat_le}
use Rattle.cursor.specs.Bytes.{byte, be16, part}
use Rattle.instruction.specs.Said.{Said}
use Rattle.instruction.specs.Kinds.{known, width, said}
use Rattle.dayfile.specs.declared.fault.Told.{Told}
use Rattle.dayfile.specs.Limits.{most_memo, lowest_mark, highest_mark}
use Rattle.dayfile.specs.Faults.{bad_length, no_kind, ends_inside, odd_memo}

-- what a record says, its memo, and the place where the memo begins
pub record Reading : Type 0 where
  pub says : Said
  pub memo : List ℕ
  pub memo_place : ℕ

pub data Outcome : Type 0 where
  -- no record is left
  ends : Outcome
  -- the record is faulty
  faults : Told → Outcome
  -- the record, and the place of the next one
  reads : Reading → ℕ → Outcome

-- a byte that a memo may have
abbrev pub plain : ℕ → Bool
plain b = cond (nat_le lowest_mark b) (nat_le b highest_mark) false

abbrev pub all_plain : List ℕ → Bool
all_plain [] = true
all_plain (b ∷ bs) = cond (plain b) (all_plain bs) false

-- the record at the place p, whose bytes past its length are b: a kind, its fields, and the rest is the memo
abbrev pub read_body : List ℕ → ℕ → Outcome
read_body b p =
    let fields_end : ℕ = 1 + width (byte b 0) in
    cond (nat_le 1 (length b))
    (cond (known (byte b 0))
    (cond (nat_le fields_end (length b))
    (cond (nat_le (length b - fields_end) most_memo)
    (cond (all_plain (drop fields_end b))
    (reads (record { says = said (byte b 0) b 1; memo = drop fields_end b; memo_place = p + 2 + fields_end }) (p + 2 + length b))
    (faults (odd_memo p)))
    (faults (bad_length p)))
    (faults (bad_length p)))
    (faults (no_kind p)))
    (faults (bad_length p))

-- the record at the place p of the file bs: two bytes of length, and as many bytes as it says
abbrev pub read_record : List ℕ → ℕ → Outcome
read_record bs p =
    cond (nat_le (length bs) p) ends
    (cond (nat_le (p + 2) (length bs))
    (cond (nat_le (p + 2 + be16 bs p) (length bs))
    (read_body (part bs (p + 2) (be16 bs p)) p)
    (faults (ends_inside p)))
    (faults (ends_inside p)))
