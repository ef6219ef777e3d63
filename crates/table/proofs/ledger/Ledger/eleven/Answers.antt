use Rattle.std.proofs.Common.{◌≡◌, ℕ, ◌≤◌, sym, ap, ◌∙◌, arith}
use Rattle.std.proofs.lemmas.Bool.{eqb-true}
use Rattle.lending.specs.Eleven.{all_fees}
use Rattle.lending.specs.Sound.{top_elevens}
use Rattle.lending.proofs.After.{accounts_later, offers_later}
use Rattle.table.specs.declared.hour.Hour.TheVariants.{Calling}
use Rattle.table.specs.Elevens.{struck}
use Rattle.table.specs.Tables.{elevens, blank}
use Rattle.table.proofs.Kept.{kept_as, elevens_most, strikes, is_calling, struck_is, struck_kept}
use Rattle.table.proofs.ledger.Ledger.eleven.Goals as goal

pub eleven-answer-requires : goal.eleven-answer-requires
eleven-answer-requires c =
    let l = c.args.self.now in
    let t = l.table in
    let most : elevens t ≤ top_elevens = omega (arith, elevens_most t, l.sound.dated) in
    record {
      loans = accounts_later (elevens t) top_elevens most t.accounts (λ k a e. (l.sound.loans k a e, l.sound.balances k a e));
      lenders = offers_later (elevens t) top_elevens most t.offers (λ k o e. (l.sound.terms k o e, l.sound.earnings k o e));
    }

pub invariant_of-self-2 : goal.invariant_of-self-2
invariant_of-self-2 c =
    let l = c.args.self.now in
    let t = l.table in
    let calls : t.hour ≡ Calling = is_calling _ c.if-ne.ensures in
    let none : t.notices ≡ 0 = eqb-true t.notices 0 (sym c.if-not-is_empty.ensures) in
    let told = c.eleven-answer.ensures in
    let s = kept_as (struck t) _ (struck_is t _ _ told.accounts told.offers) (struck_kept t l.sound c.requires calls none) in
    record { sound = s }

pub returns-clause-acted : goal.returns-clause-acted
returns-clause-acted c =
    let t = c.args.self.now.table in
    let calls : t.hour ≡ Calling = is_calling _ c.if-ne.ensures in
    let none : t.notices ≡ 0 = eqb-true t.notices 0 (sym c.if-not-is_empty.ensures) in
    let told = c.eleven-answer.ensures in (
      strikes t calls none,
      ap (λ (x : ℕ). (x, c.eleven-answer.result.1)) told.fees ∙ ap (λ (y : ℕ). (all_fees t.accounts t.offers, y)) told.vouchers,
      struck_is t _ _ told.accounts told.offers,
    )

pub returns-clause-begun : goal.returns-clause-begun
returns-clause-begun c = λ _. c.requires (ap blank (is_calling _ c.if-ne.ensures))
