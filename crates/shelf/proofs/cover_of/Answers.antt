use Rattle.std.proofs.Common.{rules, tests, None, sym, ◌∙◌, arith}
use Rattle.std.proofs.lemmas.Iterator.{YieldsList-from_map, YieldsList-from_slice}
use Rattle.std.proofs.lemmas.Iterator.Consumers.{sum_by_from_yields_List}
use Rattle.sums.proofs.Sums.{below_listed}
use Rattle.shelf.specs.Places.{counted}
use Rattle.shelf.proofs.Cover.{cover_most}
use Rattle.shelf.proofs.cover_of.Goals as goal

pub returns : goal.returns
returns g c =
    let n = g.P.Pledge.numbers in
    let a = c.args in
    let count = counted a.account (λ p. n.cover p a.day) in
    let all = sum_by_from_yields_List count a.shelf.now c.map.result c.sum.result c.sum.ensures.ran
    (YieldsList-from_map _ count (YieldsList-from_slice a.shelf.now cc) c.map.ensures.closure (λ x r q k. search (rules, tests))) in
    let value = all ∙ sym (below_listed count None a.shelf.now) in
    record { value = value; most = omega (arith, value, cover_most n g.met.P.Pledge.rules a.shelf.now a.account a.day c.requires) }
