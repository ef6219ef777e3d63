use Rattle.std.proofs.Common.{◌≡◌, ℕ, ◌<◌, get_or, replicate, arith}
use lib.ListN.{get_or-replicate}
use Rattle.book.proofs.book.notices.all_covers.Goals as goal

zeros : (k : ℕ) → k < 64 → ◌≡◌ {A = ℕ} (get_or (replicate 64 0) k 0) 0
zeros k l = get_or-replicate 64 k 0 0 l

pub add_covers-requires : goal.add_covers-requires
add_covers-requires g c = record { places = c.requires.first; room = λ k l. omega (arith, zeros k l) }

pub add_covers-requires-2 : goal.add_covers-requires-2
add_covers-requires-2 g c = record { places = c.requires.second; room = λ k l. omega (arith, zeros k (omega arith), c.add_covers.ensures.most k (omega arith)) }

pub returns : goal.returns
returns g c = record {
  value = λ k l. omega (arith, zeros k l, c.add_covers.ensures.value k l, c.add_covers-2.ensures.value k (omega arith));
  most = λ k l. omega (arith, zeros k l, c.add_covers.ensures.most k l, c.add_covers-2.ensures.most k (omega arith));
}
