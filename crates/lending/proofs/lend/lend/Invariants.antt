use Rattle.lending.proofs.Earnings.{Earning}
use Rattle.lending.proofs.lend.lend.Given as goal

abbrev pub invariant-loop-place : goal.invariant-loop-place
invariant-loop-place l = Earning l.initial.offers l.given l.offers l.earned l.place
