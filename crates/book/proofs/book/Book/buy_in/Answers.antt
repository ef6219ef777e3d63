use Rattle.std.proofs.Common.{◌≡◌, ℕ, ap, ◌∙◌, arith, w64, to_z, of_z}
use Rattle.std.proofs.lemmas.Int.{ints}
use Rattle.margin.specs.BuyIns.{cost_of}
use Rattle.book.specs.Shelves.{both}
use Rattle.book.proofs.Buying.{value_same, done_same, drawn_by_rules}
use Rattle.book.proofs.book.Book.buy_in.Goals as goal

pub settle-balance-requires-clause-settles : goal.settle-balance-requires-clause-settles
settle-balance-requires-clause-settles g c =
    let p = c.in-Ok.ensures.1 in
    record {
      is = p.is;
      sound = p.sound;
      cost_none = λ none. p.cost_is ∙ ap (λ (o : ℕ). cost_of o c.args.execution) none;
      cost_most = p.cost_most;
      lack_is = p.lack_is;
      yields_none = c.draw_both-yields.ensures.yields_none;
      yields_most = c.draw_both-yields.ensures.yields_most;
    }

pub returns : goal.returns
returns g c =
    let n = g.P.Pledge.numbers in
    let m = g.Q.Pledge.numbers in
    let t = c.args.self.now.ledger.table in
    let s = both c.args.first.now c.args.second.now in
    let after = both c.draw_both-yields.new.first c.draw_both-yields.new.second in
    let k = c.args.slip.account in
    let e = c.args.execution in
    let found = c.in-Ok.ensures in
    let back : to_z w64 (of_z w64 c.settle-balance.result) ≡ c.settle-balance.result = omega (arith, ints) in
    record {
      acted = (
        found.0,
        value_same n m t s after k e c.in-Ok.purchase c.draw_both-yields.result found.1 c.draw_both-yields.ensures _ (back ∙ c.settle-balance.ensures.value),
        done_same n m t s after k e c.in-Ok.purchase c.draw_both-yields.result found.1 c.draw_both-yields.ensures _ c.settle-balance.ensures.done,
      );
      drawn = drawn_by_rules n m t s after k e c.in-Ok.purchase c.draw_both-yields.result found.1 c.draw_both-yields.ensures;
    }
