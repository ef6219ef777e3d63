use Rattle.std.proofs.Common.{◌≡◌, refl, ap, ◌∙◌, arith}
use Rattle.lending.specs.Sound.{SoundAccount}
use Rattle.table.specs.Tables.{elevens}
use Rattle.table.specs.Accounts.{with_owed}
use Rattle.table.proofs.Slots.{of_some, some_same}
use Rattle.table.proofs.Kept.{account_kept, returned_sound}
use Rattle.table.proofs.ledger.Ledger.return_units.Goals as goal

pub invariant_of-self : goal.invariant_of-self
invariant_of-self c =
    let l = c.args.self.now in
    let a = c.in-Some-accounts.stored in
    let same : c.in-Some.a ≡ a = some_same (c.in-Some.ensures.value ∙ c.in-Some-accounts.is) in
    let sound : SoundAccount (elevens l.table) a = (l.sound.loans c.args.account a c.in-Some-accounts.is, l.sound.balances c.args.account a c.in-Some-accounts.is) in
    let new = returned_sound (elevens l.table) a _ sound (omega (arith, ap (λ x. x.owed) same)) in
    let s = account_kept l.table l.sound c.args.account _ (of_some (SoundAccount (elevens l.table)) (with_owed _ a) new) (λ _. refl) in
    record { sound = s }
