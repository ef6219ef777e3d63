use Rattle.std.proofs.Common.{◌≡◌, ℕ, ◌+◌, ◌<◌, length, get_or}
use Rattle.sums.specs.Below.{below}
use Rattle.shelf.specs.Places.{at, counted}
use Rattle.shelf.proofs.covers.add_covers.Given as goal

-- each sum has the covers of the places passed
abbrev pub invariant-loop-place : goal.invariant-loop-place
invariant-loop-place g l =
    (k : ℕ) → k < length l.initial.sums →
    get_or l.sums k 0 ≡ get_or l.initial.sums k 0 + below l.place-index (λ j. counted k (λ p. g.P.Pledge.numbers.cover p l.day) (at l.shelf j))
