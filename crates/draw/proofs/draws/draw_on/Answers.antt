use Rattle.std.proofs.Common.{arith}
use Rattle.draw.proofs.Going.{start, step, enough_had, all_drawn}
use Rattle.draw.proofs.Told.{price_stands, most_came, none_came, draw_told}
use Rattle.draw.proofs.draws.draw_on.Goals as goal

pub loop-lack-init : goal.loop-lack-init
loop-lack-init g c = start _ g.met.P.Pledge.rules (price_stands c.args.price)

pub overflow_add-total : goal.overflow_add-total
overflow_add-total g c =
    let on = step _ g.met.P.Pledge.rules (price_stands c.args.price) c.loop-lack.invariant c.loop-lack-test.true
    c.in-Some.ensures c.draw_at-paid.ensures.yields c.draw_at-paid.ensures.left in
    record { fits = omega (arith, on.within c.requires) }

pub loop-lack-smaller : goal.loop-lack-smaller
loop-lack-smaller g c =
    (step _ g.met.P.Pledge.rules (price_stands c.args.price) c.loop-lack.invariant c.loop-lack-test.true
    c.in-Some.ensures c.draw_at-paid.ensures.yields c.draw_at-paid.ensures.left).fewer

pub loop-lack-preserved : goal.loop-lack-preserved
loop-lack-preserved g c =
    (step _ g.met.P.Pledge.rules (price_stands c.args.price) c.loop-lack.invariant c.loop-lack-test.true
    c.in-Some.ensures c.draw_at-paid.ensures.yields c.draw_at-paid.ensures.left).going
    c.saturating_sub-lack.result c.saturating_sub-lack.ensures

pub returns-in_default : goal.returns-in_default
returns-in_default g c =
    let rules = g.met.P.Pledge.rules in
    let priced = price_stands c.args.price in
    let done = all_drawn _ rules priced c.loop-lack.invariant c.in_default.ensures in
    record {
      yields = done.yields;
      left = done.leaves;
      most = most_came _ rules priced done c.requires;
      none = none_came _ rules priced done;
      told = draw_told _ rules priced;
    }

pub returns : goal.returns
returns g c =
    let rules = g.met.P.Pledge.rules in
    let priced = price_stands c.args.price in
    let done = enough_had _ rules priced c.loop-lack.invariant (omega arith) in
    record {
      yields = done.yields;
      left = done.leaves;
      most = most_came _ rules priced done c.requires;
      none = none_came _ rules priced done;
      told = draw_told _ rules priced;
    }
