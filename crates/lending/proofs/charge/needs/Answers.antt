use Rattle.std.proofs.Common.{◌≡◌, length, ap, ◌∙◌, arith}
use Rattle.lending.specs.Sound.{top_elevens}
use Rattle.lending.specs.Lending.{units_below}
use Rattle.lending.proofs.Fees.{units_below_most}
use Rattle.lending.proofs.charge.needs.Goals as goal

pub count-requires-clause-room : goal.count-requires-clause-room
count-requires-clause-room c = λ s. omega (arith, c.loop-account.invariant s, units_below_most top_elevens c.args.accounts.now c.requires s c.loop-account.account-index)

pub returns : goal.returns
returns c =
    let end : c.loop-account.account-index ≡ length c.args.accounts.now = omega arith in
    λ s. c.loop-account.invariant s ∙ ap (units_below c.args.accounts.now s) end
