use Rattle.std.proofs.Common.{◌≡◌, ℤ, Some, Option, sym, ap, ◌∙◌, arith, w64, to_z, of_z, rules}
use Rattle.std.specs.Option.{option_map}
use Rattle.std.proofs.lemmas.Int.{ints}
use Rattle.lending.specs.declared.account.Account.{Account}
use Rattle.table.specs.Tables.{account_at}
use Rattle.table.proofs.Kept.{kept_as}
use Rattle.margin.specs.BuyIns.{barred_at, bought, bought_in, settled}
use Rattle.margin.proofs.Kept.{bought_in_kept, closed_with_words, closed_words}
use Rattle.margin.proofs.buy_ins.settle.Goals as goal

pub invariant_of-ledger : goal.invariant_of-ledger
invariant_of-ledger c =
    let l = c.args.ledger.now in
    let t = l.table in
    let k = c.args.account in
    let p = c.args.purchase in
    let after : ℤ = c.after-balance.result in
    let told : after ≡ settled p.account.balance p.cost c.args.yields = search rules in
    let back : to_z w64 (of_z w64 after) ≡ after = omega (arith, ints) in
    let is = c.requires.settles.is in
    let slot : option_map (barred_at (to_z w64 (of_z w64 after))) (account_at t k) ≡ option_map (bought p.cost c.args.yields) (account_at t k) =
    ap (option_map (barred_at (to_z w64 (of_z w64 after)))) is ∙ ap (λ (y : ℤ). Some (barred_at y p.account)) (back ∙ told) ∙ sym (ap (option_map (bought p.cost c.args.yields)) is) in
    let done =
    ap (λ (o : Option Account). closed_with_words t k o c.remove.new.self c.remove-2.new.self) (c.bar.ensures ∙ slot)
    ∙ closed_words t k (option_map (bought p.cost c.args.yields) (account_at t k)) c.remove.ensures c.remove-2.ensures in
    record { sound = kept_as (bought_in k p.cost c.args.yields t) _ done (bought_in_kept t l.sound k p c.args.yields c.requires.settles) }
