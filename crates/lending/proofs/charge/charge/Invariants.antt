use Rattle.lending.proofs.Fees.{Paying}
use Rattle.lending.proofs.charge.charge.Given as goal

abbrev pub invariant-loop-slot : goal.invariant-loop-slot
invariant-loop-slot l = Paying l.initial.slot-items l.earned l.slot-items l.earlier l.slot-index
