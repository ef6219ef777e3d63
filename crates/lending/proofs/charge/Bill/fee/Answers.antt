use Rattle.std.proofs.Common.{◌+◌, arith}
use Rattle.lending.proofs.Parts.{share_up, share_step}
use Rattle.lending.proofs.charge.Bill.fee.Goals as goal

pub overflow_sub-result : goal.overflow_sub-result
overflow_sub-result c = omega (arith, share_up c.args.self.all c.args.earlier (c.args.earlier + c.args.units) c.args.self.need (omega arith))

pub returns-clause-most : goal.returns-clause-most
returns-clause-most c = omega (arith, share_step 70000000 c.args.self.all c.args.earlier c.args.units c.args.self.need c.args.self.most)
