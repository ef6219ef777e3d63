-- The prices of a day.
use Rattle.std.proofs.Common.{◌≡◌, ℕ, zero, suc, ◌≤◌, true, not, ◌&&◌, List, [], ◌∷◌, get_or, refl, ap, arith}
use Rattle.std.specs.List.{list_all}
use Rattle.std.proofs.lemmas.Bool.Decides.{nat_tests}
use Rattle.std.proofs.lemmas.Bool.{and_parts}
use Rattle.lending.specs.Measures.{top_price}
use Rattle.table.specs.Act.{outside}
use Rattle.table.specs.Days.{all_priced}

-- a test of each price is a test of all of them
pub all_tested : (ps : List ℕ) → list_all (λ p. not (outside 1 top_price p)) ps ≡ all_priced ps
all_tested [] = refl
all_tested (p ∷ ps) = ap (λ b. not (outside 1 top_price p) && b) (all_tested ps)

in_range : (n : ℕ) → not (outside 1 top_price n) ≡ true → n ≤ top_price
in_range n e = grind (arith, nat_tests)

-- no price, and no number past the prices, is above the highest
pub priced_at : (ps : List ℕ) → all_priced ps ≡ true → (k : ℕ) → get_or ps k 0 ≤ top_price
priced_at [] e k = omega arith
priced_at (p ∷ ps) e zero = in_range p (and_parts (not (outside 1 top_price p)) (all_priced ps) e).0
priced_at (p ∷ ps) e (suc k) = priced_at ps (and_parts (not (outside 1 top_price p)) (all_priced ps) e).1 k
