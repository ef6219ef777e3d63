use Rattle.std.proofs.Common.{◌≡◌, ℕ, Bool, true, false, cond, ◌&&◌, List, [], ◌∷◌, refl, ap, ◌∙◌, rules, tests}
use Rattle.std.specs.List.{list_all}
use Rattle.std.proofs.lemmas.Iterator.{YieldsList-from_slice}
use Rattle.std.proofs.lemmas.Iterator.Search.{all_from_yields_List}
use Rattle.dayfile.specs.Outcome.{plain, all_plain}
use Rattle.dayfile.proofs.record.plain.Goals as goal

both : (a b : Bool) → (a && b) ≡ cond a b false
both true b = refl
both false b = refl

all_pass : (bs : List ℕ) → list_all plain bs ≡ all_plain bs
all_pass [] = refl
all_pass (b ∷ bs) = both (plain b) (list_all plain bs) ∙ ap (λ rest. cond (plain b) rest false) (all_pass bs)

pub returns : goal.returns
returns c =
    all_from_yields_List plain _ _ _ c.all.ensures.ran (YieldsList-from_slice c.args.memo.now cc) (λ x b q k. search (rules, tests)) ∙ all_pass c.args.memo.now
