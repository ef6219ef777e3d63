use Rattle.std.proofs.Common.{ap}
use Rattle.table.proofs.Kept.{kept_as}
use Rattle.margin.specs.Notices.{with_slips}
use Rattle.margin.proofs.Kept.{back_kept}
use Rattle.margin.proofs.notices.wait.Goals as goal

pub invariant_of-ledger : goal.invariant_of-ledger
invariant_of-ledger c =
    let l = c.args.ledger.now in
    record { sound = kept_as _ _ (ap (with_slips l.table) c.remove.ensures) (back_kept l.table l.sound c.args.account) }
