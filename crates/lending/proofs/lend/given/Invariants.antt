use Rattle.lending.proofs.Giving.{Gave}
use Rattle.lending.proofs.lend.given.Given as goal

abbrev pub invariant-loop-rank : goal.invariant-loop-rank
invariant-loop-rank l = Gave l.offers l.initial.left l.rank-items l.given l.left l.rank-index
