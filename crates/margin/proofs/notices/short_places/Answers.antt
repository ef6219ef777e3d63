use Rattle.std.proofs.Common.{ℕ, Bool, get_or, sym, ◌∙◌}
use Rattle.bits.proofs.Words.{word_none, word_set, word_skip}
use Rattle.table.specs.Tables.{account_at}
use Rattle.margin.specs.Margins.{short}
use Rattle.margin.proofs.notices.short_places.Goals as goal
use Rattle.margin.proofs.notices.short_places.Goals.{then-is_short, else-is_short}

pub loop-k-init : goal.loop-k-init
loop-k-init c =
    let t = c.args.ledger.now.table in
    c.none-short.ensures ∙ sym (word_none (λ k. short t (account_at t k) (get_or c.args.covers.now k 0)))

pub loop-k-preserved : goal.loop-k-preserved
loop-k-preserved c =
    let t = c.args.ledger.now.table in
    let f : ℕ → Bool = λ k. short t (account_at t k) (get_or c.args.covers.now k 0) in
    elim c.if-is_short.branch [
      | then-is_short w ↦ w.short-is ∙ w.insert.ensures ∙ word_set f c.loop-k.short c.loop-k.k c.loop-k.invariant (sym w.if-is_short.ensures)
      | else-is_short w ↦ w.short-is ∙ word_skip f c.loop-k.short c.loop-k.k c.loop-k.invariant (sym w.if-is_short.ensures)
    ]
