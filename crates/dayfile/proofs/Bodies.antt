-- The ways through the meaning of a record's bytes.
use Rattle.std.proofs.Common.{◌≡◌, ℕ, ◌+◌, ◌-◌, ◌<◌, ◌≤◌, true, false, List, length, drop, Ok, Err, sym, ap, ◌∙◌, arith, length-drop}
use Rattle.std.proofs.lemmas.Bool.Decides.{nat_tests}
use Rattle.cursor.specs.declared.cursor.Cursor.{Cursor}
use Rattle.cursor.specs.Bytes.{byte}
use Rattle.instruction.specs.declared.instruction.Instruction.{Instruction}
use Rattle.instruction.specs.declared.unread.Unread.{Unread}
use Rattle.instruction.specs.declared.unread.Unread.TheVariants as field
use Rattle.instruction.specs.Said.{told}
use Rattle.instruction.specs.Kinds.{known, width, said}
use Rattle.instruction.specs.Unread.{Instructs}
use Rattle.dayfile.specs.Layers.{inside, unread}
use Rattle.dayfile.specs.Faults.{tells, bad_length, no_kind}
use Rattle.dayfile.specs.Outcome.{faults, reads, all_plain, read_body}

-- the place past the fields of the record whose bytes are b
abbrev fields_end : List ℕ → ℕ
fields_end b = 1 + width (byte b 0)

whole : (b : List ℕ) (p : ℕ) → 1 ≤ length b → known (byte b 0) ≡ true → fields_end b ≤ length b → length b - fields_end b ≤ 64 → all_plain (drop (fields_end b) b) ≡ true → read_body b p ≡ reads (record { says = said (byte b 0) b 1; memo = drop (fields_end b) b; memo_place = p + 2 + fields_end b }) (p + 2 + length b)
whole b p some k fits short plain = grind (arith, nat_tests)

-- a cursor over the bytes b of the record at the place p, which has read the kind k and stands past it
pub record PastKind (b : List ℕ) (p k : ℕ) (c : Cursor) : Type 0 where
  pub some : 1 ≤ length b
  pub same : c.bytes.now ≡ b
  pub is : k ≡ byte b 0
  pub one : c.at ≡ 1
  pub start : c.start ≡ p

module _ (b : List ℕ) (p k : ℕ) (c : Cursor) (h : PastKind b p k c) where
  unknown : (q : ℕ) → known k ≡ false → q ≡ c.start → faults (no_kind q) ≡ read_body b p
  unknown q i s = grind (arith, nat_tests)

  short : (q : ℕ) → known k ≡ true → length c.bytes.now < c.at + width k → q ≡ c.start → faults (bad_length q) ≡ read_body b p
  short q i w s = grind (arith, nat_tests)

  pub bad_at : (e : Unread) (after : Cursor) → Instructs k c (Err e) after → faults (tells (inside (unread e))) ≡ read_body b p
  bad_at (field.Kind q) after i = unknown q i.0 i.1
  bad_at (field.Short q) after i = short q i.0 i.1 i.2

  pub whole_at : (v : Instruction) (after : Cursor) → Instructs k c (Ok v) after → (m : List ℕ) → m ≡ drop after.at after.bytes.now → length m ≤ 64 → true ≡ all_plain m → reads (record { says = told v; memo = m; memo_place = p + 2 + after.at }) (p + 2 + length b) ≡ read_body b p
  whole_at v after i m rest l o =
      let far : after.at ≡ fields_end b = i.1.2.2 ∙ rw (h.is, h.one) in
      let memo : m ≡ drop (fields_end b) b = rest ∙ ap (λ x. drop after.at x) (i.1.2.0 ∙ h.same) ∙ ap (λ x. drop x b) far in
      let says : told v ≡ said (byte b 0) b 1 = i.1.0 ∙ rw (h.same, h.is, h.one) in
      let fits : fields_end b ≤ length b = rw (h.same, h.is, h.one) at i.1.1 in
      let short : length b - fields_end b ≤ 64 = rw (ap length memo ∙ length-drop (fields_end b) b) at l in
      rw (says, memo, far) (sym (whole b p h.some (rw h.is at i.0) fits short (sym (o ∙ ap all_plain memo))))
