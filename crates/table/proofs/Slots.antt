-- A write to one place of a list of places.
use Rattle.std.proofs.Common.{◌≡◌, ℕ, zero, suc, true, List, [], ◌∷◌, get_or, set, Some, None, Option, subst, arith}
use Rattle.table.specs.Tables.{taken}

-- what holds of all that stands in a list still holds after a write of which it holds
pub each_put : {X : Type 0} (P : X → Type 0) (xs : List (Option X)) (i : ℕ) (o : Option X) → ((x : X) → o ≡ Some x → P x) →
    ((k : ℕ) (x : X) → get_or xs k None ≡ Some x → P x) →
    (k : ℕ) (x : X) → get_or (set xs i o) k None ≡ Some x → P x
each_put P [] i o p h k x e = h k x e
each_put P (y ∷ ys) zero o p h zero x e = p x e
each_put P (y ∷ ys) zero o p h (suc k) x e = h (suc k) x e
each_put P (y ∷ ys) (suc i) o p h zero x e = h zero x e
each_put P (y ∷ ys) (suc i) o p h (suc k) x e = each_put P ys i o p (λ j z. h (suc j) z) k x e

-- a write that empties no place leaves each taken place taken
pub still_taken : {X : Type 0} (xs : List (Option X)) (i : ℕ) (o : Option X) → (taken (get_or xs i None) ≡ true → taken o ≡ true) →
    (k : ℕ) → taken (get_or xs k None) ≡ true → taken (get_or (set xs i o) k None) ≡ true
still_taken [] i o p k e = e
still_taken (y ∷ ys) zero o p zero e = p e
still_taken (y ∷ ys) zero o p (suc k) e = e
still_taken (y ∷ ys) (suc i) o p zero e = e
still_taken (y ∷ ys) (suc i) o p (suc k) e = still_taken ys i o p k e

pub of_some : {X : Type 0} (P : X → Type 0) (y : X) → P y → (x : X) → Some y ≡ Some x → P x
of_some P y p x e = let same : y ≡ x = cc in subst P same p

pub of_none : {X : Type 0} (P : X → Type 0) (x : X) → None ≡ Some x → P x
of_none P x e = let z : ◌≡◌ {A = ℕ} 0 1 = cc in absurd (omega arith)

-- what stands in two places that are the same
pub some_same : {X : Type 0} {x y : X} → Some x ≡ Some y → x ≡ y
some_same e = cc
