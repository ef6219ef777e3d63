use Rattle.std.proofs.Common.{[], length, ap, ◌∙◌, arith}
use Rattle.std.proofs.lemmas.Result.{err_from_is_err_and}
use Rattle.dayfile.specs.File.{none}
use Rattle.dayfile.proofs.Files.{begun, past_record, on_end, on_fault, on_record}
use Rattle.dayfile.proofs.file.read_file.Goals as goal

pub returns-in_err-reader-clause-handed : goal.returns-in_err-reader-clause-handed
returns-in_err-reader-clause-handed g c =
    let q = err_from_is_err_and c.from_residual.result c.from_residual.ensures.1 in
    rw (q.1, q.2) ([], c.in_err-reader.ensures, none _)

pub returns-in_err-record-clause-handed : goal.returns-in_err-record-clause-handed
returns-in_err-record-clause-handed g c =
    let q = err_from_is_err_and c.from_residual-in_err-record.result c.from_residual-in_err-record.ensures.1 in
    let o = c.in_ok-reader.ensures in
    rw (q.1, q.2) (begun g.S.Sink.takes c.args.file.now c.args.sink.now c.loop-record.sink _ o.0 o.1 (c.loop-record.invariant.2 _ _ (on_fault g.S.Sink.takes c.args.file.now c.loop-record.reader.file.now c.loop-record.reader.at c.next_record.new.self.at c.loop-record.sink c.loop-record.invariant.0 c.in_err-record.field-0.0 c.in_err-record.ensures.reads)))

pub loop-record-preserved : goal.loop-record-preserved
loop-record-preserved g c =
    let h = past_record _ c.in-Some.record c.in-Some.is c.loop-record.reader c.next_record.new.self c.in_ok-record.ensures.stands in (
      h.0 ∙ c.loop-record.invariant.0,
      omega (arith, h.2, ap length c.loop-record.invariant.0),
      λ e t more. c.loop-record.invariant.2 e t (on_record g.S.Sink.takes c.args.file.now c.loop-record.reader.file.now c.loop-record.reader.at c.next_record.new.self.at c.loop-record.sink c.loop-record.invariant.0 c.in_ok-record.field-0 c.in-Some.record c.in-Some.is c.in_ok-record.ensures.reads c.take.new.self c.take.ensures e t more),
    )

pub returns-clause-handed : goal.returns-clause-handed
returns-clause-handed g c =
    let o = c.in_ok-reader.ensures in
    begun g.S.Sink.takes c.args.file.now c.args.sink.now c.loop-record.sink _ o.0 o.1 (c.loop-record.invariant.2 _ _ (on_end g.S.Sink.takes c.args.file.now c.loop-record.reader.file.now c.loop-record.reader.at c.next_record.new.self.at c.loop-record.sink c.loop-record.invariant.0 c.in_ok-record.field-0 c.in_default.is c.in_ok-record.ensures.reads))
