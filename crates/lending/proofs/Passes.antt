-- A table that is changed in place, one place after another.
use Rattle.std.proofs.Common.{◌≡◌, ℕ, ◌+◌, ◌<◌, ◌≤◌, List, length, set, None, Option, ◌∙◌, arith, length-set}
use Rattle.std.proofs.lemmas.List.{get_or_past}
use Rattle.std.proofs.lemmas.Grind.{common_steps}
use Rattle.std.specs.Option.{option_map}
use Rattle.lending.specs.Lending.{at}

-- ys is as long as xs, and the places below i are changed, each by its own g
pub record Passed {X : Type 0} (g : ℕ → X → X) (xs ys : List (Option X)) (i : ℕ) : Type 0 where
  pub long : length ys ≡ length xs
  pub done : (k : ℕ) → k < i → at ys k ≡ option_map (g k) (at xs k)
  pub rest : (k : ℕ) → i ≤ k → at ys k ≡ at xs k

pub passed_more : {X : Type 0} (g : ℕ → X → X) (xs ys : List (Option X)) (i : ℕ) (v : Option X) →
    Passed g xs ys i → i < length xs → v ≡ option_map (g i) (at xs i) → Passed g xs (set ys i v) (i + 1)
passed_more g xs ys i v p l e = record {
  long = length-set ys i v ∙ p.long;
  done = λ k m. grind (arith, common_steps, p.done k, p.long);
  rest = λ k m. grind (arith, common_steps, p.rest k);
}

pub passed_all : {X : Type 0} (g : ℕ → X → X) (xs ys : List (Option X)) (i : ℕ) →
    Passed g xs ys i → length xs ≤ i → (k : ℕ) → at ys k ≡ option_map (g k) (at xs k)
passed_all g xs ys i p l k = grind (arith, common_steps, p.done k, p.rest k, get_or_past xs k None)
