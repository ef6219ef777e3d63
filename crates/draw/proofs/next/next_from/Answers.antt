use Rattle.std.proofs.Common.{rules, tests, ℕ, Option}
use Rattle.std.proofs.lemmas.Iterator.{YieldsList-from_slice}
use Rattle.std.proofs.lemmas.Iterator.Consumers.{YieldsList-at, YieldsList-from_enumerate, YieldsList-from_filter_map, reduce_from_yields_List}
use Rattle.shelf.specs.declared.held.Held.{Held}
use Rattle.draw.specs.Nexts.{candidate}
use Rattle.draw.specs.declared.turn.Turn.{Turn}
use Rattle.draw.proofs.Nearest.{min_turn, least_is}
use Rattle.draw.proofs.next.next_from.Goals as goal

pub returns : goal.returns
returns g c =
    let n = g.P.Pledge.numbers in
    let a = c.args in
    let turn : ℕ × Option (Held g.row.P.Denot) → Option Turn = λ p. candidate n a.account a.from p.0 p.1 in
    least_is n a.shelf.now a.account a.from
    (reduce_from_yields_List min_turn c.filter_map.result c.min.result c.min.ensures.ran
    (YieldsList-from_filter_map _ turn
    (YieldsList-at c.filter_map.ensures.source (YieldsList-from_enumerate (YieldsList-at c.enumerate.ensures.source (YieldsList-from_slice a.shelf.now cc)) c.enumerate.ensures.count))
    c.filter_map.ensures.closure (λ x r q k. search (rules, tests))))
