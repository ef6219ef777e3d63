use Rattle.std.proofs.Common.{ap}
use Rattle.table.proofs.Kept.{kept_as}
use Rattle.margin.specs.Notices.{with_notices, with_slips}
use Rattle.margin.proofs.Kept.{closed_kept, out_kept}
use Rattle.margin.proofs.notices.examine.Goals as goal

pub invariant_of-ledger : goal.invariant_of-ledger
invariant_of-ledger c =
    let l = c.args.ledger.now in
    record { sound = kept_as _ _ (ap (with_slips l.table) c.insert.ensures) (out_kept l.table l.sound c.args.place c.requires.known.noticed) }

pub invariant_of-ledger-in-None : goal.invariant_of-ledger-in-None
invariant_of-ledger-in-None c =
    let l = c.args.ledger.now in
    record { sound = kept_as _ _ (ap (with_notices l.table) c.remove.ensures) (closed_kept l.table l.sound c.args.place c.requires.known.free) }
