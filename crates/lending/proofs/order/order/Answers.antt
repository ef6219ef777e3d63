use Rattle.std.proofs.Common.{◌≡◌, map, sym, ap, ◌∙◌, arith, rules}
use Rattle.std.specs.List.{range_with_len}
use Rattle.lending.specs.Steps.{rank_at, lowest_rank, Ordered}
use Rattle.lending.proofs.FromFn.{from_fn_is}
use Rattle.lending.proofs.Ranks.{place_inside}
use Rattle.lending.proofs.Sorted.{sorted}
use Rattle.lending.proofs.order.order.Goals as goal

pub returns : goal.returns
returns c =
    let os = c.args.offers.now in
    let ranks = c.from_fn-ranks.result in
    let after = c.sort_unstable.new.self in
    let made : ranks ≡ map (rank_at os) (range_with_len 0 256) =
    from_fn_is _ _ (rank_at os) (λ k y q h. (search rules, search rules)) ranks 256 lowest_rank c.from_fn-ranks.ensures.items in
    let ordered : Ordered os after =
    sorted os ranks after (made ∙ sym (ap (λ n. map (rank_at os) (range_with_len 0 n)) c.told-offers))
    c.sort_unstable.ensures.permutation c.sort_unstable.ensures.len c.sort_unstable.ensures.sorted in
    record { ordered = ordered; inside = λ j l. omega (arith, place_inside os after ordered j (omega arith)) }
