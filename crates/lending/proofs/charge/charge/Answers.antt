use Rattle.std.proofs.Common.{length, arith}
use Rattle.lending.specs.Sound.{top_elevens}
use Rattle.lending.proofs.Passes.{passed_all}
use Rattle.lending.proofs.Fees.{pay_at, units_below_most, step, within}
use Rattle.lending.proofs.charge.charge.Goals as goal

pub pay-requires-clause-within : goal.pay-requires-clause-within
pay-requires-clause-within c = within c.args.accounts.now c.args.earned.now c.loop-slot.slot-items c.loop-slot.earlier c.loop-slot.slot-index c.loop-slot.invariant c.args.needs.now (omega arith) c.requires.need

pub pay-requires-clause-need : goal.pay-requires-clause-need
pay-requires-clause-need c = λ s. omega (arith, c.requires.need s, units_below_most top_elevens c.args.accounts.now c.requires.sound s (length c.args.accounts.now))

pub count-requires-clause-room : goal.count-requires-clause-room
count-requires-clause-room c = λ s. omega (arith, c.loop-slot.invariant.earlier_is s, units_below_most top_elevens c.args.accounts.now c.requires.sound s c.loop-slot.slot-index)

pub loop-slot-preserved : goal.loop-slot-preserved
loop-slot-preserved c =
    step c.args.accounts.now c.args.earned.now c.args.needs.now c.loop-slot.slot-items c.loop-slot.earlier c.loop-slot.slot-index c.pay.new.slot c.count.new.units
    c.loop-slot.invariant (omega arith) c.requires.need c.pay.ensures c.count.ensures

pub returns : goal.returns
returns c = passed_all (pay_at c.args.accounts.now c.args.earned.now) c.args.accounts.now c.loop-slot.slot-items c.loop-slot.slot-index c.loop-slot.invariant.passed (omega arith)
