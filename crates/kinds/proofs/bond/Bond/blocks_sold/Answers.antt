use Rattle.kinds.specs.Reach.{fewest}
use Rattle.kinds.proofs.bond.Bond.blocks_sold.Goals as goal

pub returns-clause-fewest : goal.returns-clause-fewest
returns-clause-fewest c = fewest _ _ _ _ (cc) c.args.price.low
