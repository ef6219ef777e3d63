use Rattle.table.proofs.Kept.{blank_sound}
use Rattle.table.proofs.ledger.Ledger.blank.Goals as goal

pub invariant_of-result : goal.invariant_of-result
invariant_of-result c =
    let s = blank_sound c.none.ensures c.none-2.ensures in
    record { sound = s }
