use Rattle.std.proofs.Common.{length, ap, ◌∙◌, arith}
use Rattle.std.proofs.lemmas.Result.{err_from_is_err_and}
use Rattle.dayfile.proofs.Bodies.{PastKind, bad_at, whole_at}
use Rattle.dayfile.proofs.record.read_record.Goals as goal
use Rattle.dayfile.proofs.record.read_record.Goals.{In_ok-kind}

past_kind : (c : In_ok-kind) → PastKind c.args.bytes.now c.args.place c.in_ok-kind.kind c.take.new.self
past_kind c =
    let t = c.in_ok-kind.ensures in
    let same = c.new-c.ensures.bytes in
    record {
      some = omega (arith, t.1, ap length same, c.new-c.ensures.at);
      same = t.2.0 ∙ same;
      is = cc;
      one = omega (arith, t.2.2, c.new-c.ensures.at);
      start = t.2.1 ∙ c.new-c.ensures.start;
    }

pub returns-in_err-instruction : goal.returns-in_err-instruction
returns-in_err-instruction c =
    let k = past_kind (goal.at.returns-in_err-instruction c).In_ok-kind in
    let q = err_from_is_err_and c.from_residual-in_err-instruction.result c.from_residual-in_err-instruction.ensures.1 in
    rw (q.1, q.2) (bad_at _ _ _ _ k c.in_err-instruction.field-0.0 _ c.in_err-instruction.ensures)

pub returns : goal.returns
returns c =
    let k = past_kind (goal.at.returns c).In_ok-kind in
    whole_at _ _ _ _ k c.in_ok-instruction.instruction c.read_instruction.new.c c.in_ok-instruction.ensures _ c.rest.ensures.value c.if-memo-gt-MEMO_MOST.false c.if-not-plain.ensures
