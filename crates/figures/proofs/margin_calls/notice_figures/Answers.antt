use Rattle.std.proofs.Common.{rules}
use Rattle.figures.proofs.Notices.{unnoticed, noticed, lacks}
use Rattle.figures.proofs.margin_calls.notice_figures.Goals as goal

pub returns : goal.returns
returns c = record {
  figures = search rules;
  rules = record { no_notice = unnoticed; notice = noticed; lacking = lacks };
}
