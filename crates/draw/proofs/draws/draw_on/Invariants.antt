use Rattle.draw.proofs.Before.{to_come}
use Rattle.draw.proofs.Going.{Going}
use Rattle.draw.proofs.draws.draw_on.Given as goal

abbrev pub invariant-loop-lack : goal.invariant-loop-lack
invariant-loop-lack g l =
    Going (record {
      n = g.P.Pledge.numbers;
      shelf = l.initial.shelf;
      account = l.account;
      ask = l.ask;
      day = l.day;
      price = l.price.cents;
    }) l.lack l.total l.from l.shelf

abbrev pub decreases-loop-lack : goal.decreases-loop-lack
decreases-loop-lack g l = to_come g.P.Pledge.numbers l.initial.shelf l.from
