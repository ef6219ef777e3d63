use Rattle.std.proofs.Common.{◌≡◌, sym, arith}
use Rattle.std.proofs.lemmas.Bool.{both_ways}
use Rattle.table.specs.declared.hour.Hour.TheVariants.{Calling}
use Rattle.table.proofs.Kept.{opened_kept}
use Rattle.table.proofs.ledger.Ledger.open.Goals.{in-Morning, in_default}
use Rattle.table.proofs.ledger.Ledger.open.Goals as goal

pub invariant_of-self : goal.invariant_of-self
invariant_of-self c =
    let l = c.args.self.now in
    let not_calling : (l.table.hour ≡ Calling → ⊥) = λ e. elim c.match-matches.branch [ in-Morning w ↦ both_ways _ c.if-matches.false w.matches-is | in_default w ↦ w.in_default.not-Calling e ] in
    let s = opened_kept l.table l.sound c.args.prices (sym c.if-not-all_priced.ensures) (omega arith) not_calling in
    record { sound = s }
