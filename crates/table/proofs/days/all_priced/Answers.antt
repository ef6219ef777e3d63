use Rattle.std.proofs.Common.{rules, tests, ◌∙◌, not}
use Rattle.std.proofs.lemmas.Iterator.{YieldsList-from_slice}
use Rattle.std.proofs.lemmas.Iterator.Search.{all_from_yields_List}
use Rattle.lending.specs.Measures.{top_price}
use Rattle.table.specs.Act.{outside}
use Rattle.table.proofs.Prices.{all_tested}
use Rattle.table.proofs.days.all_priced.Goals as goal

pub returns : goal.returns
returns c =
    all_from_yields_List (λ p. not (outside 1 top_price p)) _ _ c.all.result c.all.ensures.ran
    (YieldsList-from_slice c.args.prices.now cc) (λ x b q k. search (rules, tests))
    ∙ all_tested c.args.prices.now
