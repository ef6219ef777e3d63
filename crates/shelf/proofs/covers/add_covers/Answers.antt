use Rattle.std.proofs.Common.{◌≡◌, ℕ, ◌+◌, ◌<◌, length, get_or, ap, ◌∙◌, arith}
use Rattle.sums.specs.Below.{below}
use Rattle.shelf.specs.Places.{at, counted}
use Rattle.shelf.proofs.Cover.{one_more_place, below_most_cover, cover_most}
use Rattle.shelf.proofs.covers.add_covers.Goals as goal

pub add_cover-requires : goal.add_cover-requires
add_cover-requires g c k within =
    let a = c.args in
    let sum = c.loop-place.invariant k (omega arith) in
    let most = below_most_cover g.P.Pledge.numbers g.met.P.Pledge.rules a.shelf.now k a.day c.loop-place.place-index in
    omega (arith, c.requires.room k (omega arith))

pub loop-place-preserved : goal.loop-place-preserved
loop-place-preserved g c k within =
    let a = c.args in
    let more = one_more_place k (λ p. g.P.Pledge.numbers.cover p a.day) a.shelf.now c.loop-place-test.true c.place-item.is in
    omega (arith, c.loop-place.invariant k within, c.add_cover.ensures k (omega arith))

pub returns : goal.returns
returns g c =
    let a = c.args in
    let n = g.P.Pledge.numbers in
    let all : c.loop-place.place-index ≡ length a.shelf.now = omega arith in
    let value = λ (k : ℕ) (l : k < length a.sums.now). c.loop-place.invariant k l ∙ ap (λ i. get_or a.sums.now k 0 + below i (λ j. counted k (λ p. n.cover p a.day) (at a.shelf.now j))) all in
    record {
      value = value;
      most = λ k l. omega (arith, value k l, cover_most n g.met.P.Pledge.rules a.shelf.now k a.day c.requires.places);
    }
