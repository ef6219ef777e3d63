use Rattle.std.proofs.Common.{refl, arith}
use Rattle.lending.specs.Sound.{SoundAccount}
use Rattle.table.specs.Tables.{elevens}
use Rattle.table.specs.Accounts.{enrolled}
use Rattle.table.proofs.Slots.{of_some}
use Rattle.table.proofs.Kept.{account_kept, enrolled_sound}
use Rattle.table.proofs.ledger.Ledger.enrol.Goals as goal

pub invariant_of-self : goal.invariant_of-self
invariant_of-self c =
    let l = c.args.self.now in
    let new = enrolled_sound (elevens l.table) c.args.firm c.args.security (omega arith) in
    let s = account_kept l.table l.sound c.args.account _ (of_some (SoundAccount (elevens l.table)) (enrolled c.args.firm c.args.security) new) (λ _. refl) in
    record { sound = s }
