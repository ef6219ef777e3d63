use Rattle.std.proofs.Common.{ap}
use Rattle.table.specs.Tables.{calling}
use Rattle.margin.proofs.Kept.{vacated_kept}
use Rattle.margin.proofs.refunds.vacate.Goals as goal

pub invariant_of-ledger : goal.invariant_of-ledger
invariant_of-ledger c =
    let l = c.args.ledger.now in
    record { sound = vacated_kept l.table l.sound c.args.account (ap calling c.requires.known.in_afternoon) }
