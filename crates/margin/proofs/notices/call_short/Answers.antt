use Rattle.std.proofs.Common.{ℕ, get_or, ap}
use Rattle.table.proofs.Kept.{kept_as}
use Rattle.margin.specs.Notices.{called}
use Rattle.margin.proofs.Kept.{called_kept}
use Rattle.margin.proofs.notices.call_short.Goals as goal

pub invariant_of-ledger : goal.invariant_of-ledger
invariant_of-ledger c =
    let l = c.args.ledger.now in
    let covers : ℕ → ℕ = λ k. get_or c.args.covers.now k 0 in
    record { sound = kept_as _ _ (ap (called l.table) c.short_places-short.ensures) (called_kept l.table l.sound covers c.requires.hour) }
