use Rattle.std.proofs.Common.{set, sym, ap, ◌∙◌}
use Rattle.std.proofs.lemmas.List.Edits.{map_over_more}
use Rattle.shelf.specs.Places.{spared}
use Rattle.shelf.proofs.places.clear.Goals as goal

pub loop-place-preserved : goal.loop-place-preserved
loop-place-preserved g c =
    let x = c.place-item.result in
    ap (set c.loop-place.shelf c.loop-place.place-index) (c.spare.ensures ∙ ap (spared c.args.account) (sym c.place-item.is))
    ∙ map_over_more (spared c.args.account) c.args.shelf.now c.loop-place.shelf c.loop-place.place-index x c.loop-place-test.true c.loop-place.invariant c.place-item.is
