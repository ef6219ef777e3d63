use Rattle.std.proofs.Common.{◌≡◌, length, get_or, ap, ◌∙◌, arith}
use Rattle.sums.specs.Below.{below}
use Rattle.lending.specs.Sound.{top_elevens}
use Rattle.lending.specs.Lending.{at}
use Rattle.lending.specs.Steps.{earns_in}
use Rattle.lending.proofs.Earnings.{earned_room}
use Rattle.lending.proofs.lend.lend.Goals as goal

pub earn-requires-clause-room : goal.earn-requires-clause-room
earn-requires-clause-room c = λ s. omega (arith, c.loop-place.invariant.earned_is s, earned_room top_elevens c.args.offers.now c.args.given.now c.requires.sound c.requires.units s c.loop-place.place (omega arith))

pub returns-clause-earned : goal.returns-clause-earned
returns-clause-earned c =
    let end : c.loop-place.place ≡ length c.args.offers.now = omega arith in
    λ s. c.loop-place.invariant.earned_is s ∙ ap (λ n. below n (λ k. earns_in s (at c.args.offers.now k) (get_or c.args.given.now k 0))) end

pub returns-clause-most : goal.returns-clause-most
returns-clause-most c = λ s. omega (arith, c.loop-place.invariant.earned_is s, earned_room top_elevens c.args.offers.now c.args.given.now c.requires.sound c.requires.units s c.loop-place.place (omega arith))
