use Rattle.std.proofs.Common.{◌≡◌, ℕ, ◌+◌, ◌-◌, ap, ◌∙◌, subst, arith}
use Rattle.draw.specs.Draws.{DrawTold, drawn, yielded}
use Rattle.book.specs.Shelves.{both}
use Rattle.book.proofs.book.buy_ins.draw_both.Goals as goal

pub returns : goal.returns
returns g c =
    let n = g.P.Pledge.numbers in
    let m = g.Q.Pledge.numbers in
    let k = c.args.account in
    let day = c.args.day in
    let price = c.args.purchase.block_price.cents in
    let first = c.args.first.now in
    let second = c.args.second.now in
    let on_first = c.draw_on-from_first.ensures in
    let on_second = c.draw_on-from_second.ensures in
    let still : c.saturating_sub-still.result ≡ c.args.purchase.lack - yielded n first k c.args.purchase.lack day price =
    c.saturating_sub-still.ensures ∙ ap (λ (x : ℕ). c.args.purchase.lack - x) on_first.yields in
    record {
      yields_is = ap (λ (x : ℕ). x + c.draw_on-from_second.result) on_first.yields
          ∙ ap (λ (y : ℕ). yielded n first k c.args.purchase.lack day price + y) (on_second.yields ∙ ap (λ (a : ℕ). yielded m second k a day price) still);
      after_is = ap (λ x. both x c.draw_on-from_second.new.shelf) on_first.left
          ∙ ap (λ x. both (drawn n first k c.args.purchase.lack day price) x) (on_second.left ∙ ap (λ (a : ℕ). drawn m second k a day price) still);
      yields_none = λ none. omega (arith, on_first.none none, on_second.none (omega (arith, still)));
      yields_most = omega (arith, on_first.most, on_second.most);
      on_first = on_first.told;
      on_second = subst (λ (a : ℕ). DrawTold m second k a day price) still on_second.told;
    }
