use Rattle.std.proofs.Common.{◌≡◌, get_or, ap, ◌∙◌}
use lib.Count.{ones}
use Rattle.bits.proofs.Words.{word_same}
use Rattle.table.specs.Tables.{account_at}
use Rattle.lending.specs.Sound.{account_places}
use Rattle.margin.specs.Margins.{short}
use Rattle.margin.specs.Notices.{called, short_among, short_word}
use Rattle.book.specs.Shelves.{both, backing}
use Rattle.book.proofs.book.Book.ten.Goals as goal

pub returns : goal.returns
returns g c =
    let t = c.args.self.now.ledger.table in
    let b = backing g.P.Pledge.numbers g.Q.Pledge.numbers (both c.args.first.now c.args.second.now) in
    let word : short_among t (λ k. get_or c.all_covers-covers.result k 0) ≡ short_word b t =
    word_same _ _ account_places (λ k l. ap (short t (account_at t k)) (c.all_covers-covers.ensures.value k l)) in (
      c.in_ok-to_ten.ensures.answer.0,
      c.call_short.ensures.value ∙ ap ones word,
      c.call_short.ensures.done ∙ ap (called t) word,
    )
