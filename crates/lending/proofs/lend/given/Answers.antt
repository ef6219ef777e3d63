use Rattle.std.proofs.Common.{◌≡◌, ℕ, length, subst, arith}
use Rattle.lending.proofs.Giving.{Gave, step, gave_all, left_all}
use Rattle.lending.proofs.lend.given.Goals as goal

pub loop-rank-preserved : goal.loop-rank-preserved
loop-rank-preserved c =
    step c.args.offers.now c.args.left.now c.order-rank-items.result c.order-rank-items.ensures.ordered (omega arith) c.loop-rank.given c.loop-rank.left c.loop-rank.rank-index c.give.result c.give.new.left
    c.loop-rank.invariant (omega (arith, c.order-rank-items.ensures.ordered.long)) c.give.ensures.units c.give.ensures.left

pub returns : goal.returns
returns c =
    let os = c.args.offers.now in
    let end : c.loop-rank.rank-index ≡ length os = omega (arith, c.order-rank-items.ensures.ordered.long) in
    let all : Gave os c.args.left.now c.order-rank-items.result c.loop-rank.given c.loop-rank.left (length os) =
    subst (λ (j : ℕ). Gave os c.args.left.now c.order-rank-items.result c.loop-rank.given c.loop-rank.left j) end c.loop-rank.invariant in
    record {
      units = gave_all os c.args.left.now c.order-rank-items.result c.order-rank-items.ensures.ordered (omega arith) c.loop-rank.given c.loop-rank.left all;
      left = left_all os c.args.left.now c.order-rank-items.result c.order-rank-items.ensures.ordered (omega arith) c.loop-rank.given c.loop-rank.left all;
    }
