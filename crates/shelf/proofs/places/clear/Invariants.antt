use Rattle.std.proofs.Common.{◌≡◌, ◌++◌, map, take, drop}
use Rattle.shelf.specs.Places.{spared}
use Rattle.shelf.proofs.places.clear.Given as goal

-- the places passed are spared
abbrev pub invariant-loop-place : goal.invariant-loop-place
invariant-loop-place g l = l.shelf ≡ map (spared l.account) (take l.place-index l.initial.shelf) ++ drop l.place-index l.initial.shelf
