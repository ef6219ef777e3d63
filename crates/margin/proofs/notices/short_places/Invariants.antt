use Rattle.std.proofs.Common.{◌≡◌, get_or}
use Rattle.bits.specs.Bit.{word_below}
use Rattle.table.specs.Tables.{account_at}
use Rattle.margin.specs.Margins.{short}
use Rattle.margin.proofs.notices.short_places.Given as goal

abbrev pub invariant-loop-k : goal.invariant-loop-k
invariant-loop-k l = l.short ≡ word_below (λ k. short l.ledger.table (account_at l.ledger.table k) (get_or l.covers k 0)) l.k
