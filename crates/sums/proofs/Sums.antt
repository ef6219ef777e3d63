-- Sums over the numbers below n.
use Rattle.std.proofs.Common.{◌≡◌, ℕ, zero, suc, ◌+◌, ◌*◌, ◌<◌, ◌≤◌, List, [], ◌∷◌, length, get_or, sym, refl, ap, subst, inl, inr, suc-mul, zero-mul, add-one, arith}
use Rattle.std.specs.List.{sum_by}
use Rattle.std.proofs.lemmas.List.Sums.{sum_by-cons}
use Rattle.std.proofs.lemmas.Bool.{cases_eq}
use Rattle.sums.specs.Below.{below}

pub below_more : (n : ℕ) (f : ℕ → ℕ) → below (n + 1) f ≡ below n f + f n
below_more n f = ap (λ m. below m f) (add-one n)

-- the first number, and the rest
pub below_front : (n : ℕ) (f : ℕ → ℕ) → below (suc n) f ≡ f 0 + below n (λ k. f (suc k))
below_front zero f = omega arith
below_front (suc n) f = omega (arith, below_front n f)

-- a sum over the places of a list is one over its items
pub below_listed : {X : Type 0} (f : X → ℕ) (none : X) (xs : List X) → below (length xs) (λ k. f (get_or xs k none)) ≡ sum_by f xs
below_listed f none [] = refl
below_listed f none (x ∷ xs) =
    let front = below_front (length xs) (λ k. f (get_or (x ∷ xs) k none)) in
    omega (arith, front, below_listed f none xs, sum_by-cons f x xs)

-- a sum of nothing but 0 is 0
pub below_none : (n : ℕ) (f : ℕ → ℕ) → ((k : ℕ) → k < n → f k ≡ 0) → below n f ≡ 0
below_none zero f h = refl
below_none (suc n) f h =
    let rest : below n f ≡ 0 = below_none n f (λ k l. h k (omega arith)) in
    omega (arith, h n (omega arith))

-- n numbers of at most `most` make at most n times that
pub below_most : (n most : ℕ) (f : ℕ → ℕ) → ((k : ℕ) → k < n → f k ≤ most) → below n f ≤ n * most
below_most zero most f h = omega (arith, zero-mul most)
below_most (suc n) most f h =
    let rest : below n f ≤ n * most = below_most n most f (λ k l. h k (omega arith)) in
    omega (arith, h n (omega arith), suc-mul n most)

-- equal numbers make equal sums
pub below_same : (n : ℕ) (f g : ℕ → ℕ) → ((k : ℕ) → k < n → f k ≡ g k) → below n f ≡ below n g
below_same zero f g h = refl
below_same (suc n) f g h =
    let rest : below n f ≡ below n g = below_same n f g (λ k l. h k (omega arith)) in
    omega (arith, h n (omega arith))

-- a sum of sums
pub below_added : (n : ℕ) (f g : ℕ → ℕ) → below n (λ k. f k + g k) ≡ below n f + below n g
below_added zero f g = refl
below_added (suc n) f g = omega (arith, below_added n f g)

-- two functions that differ at one place only
pub below_changed : (n i : ℕ) (f g : ℕ → ℕ) → i < n → ((k : ℕ) → (k ≡ i → ⊥) → f k ≡ g k) → below n f + g i ≡ below n g + f i
below_changed zero i f g l h = absurd (omega arith)
below_changed (suc n) i f g l h =
    elim (cases_eq n i) [
      | inl e ↦
          let rest : below n f ≡ below n g = below_same n f g (λ k m. h k (omega (arith, e))) in
          omega (arith, ap f e, ap g e)
      | inr ne ↦
          let rest : below n f + g i ≡ below n g + f i = below_changed n i f g (omega (arith, ne)) h in
          omega (arith, h n ne)
    ]

-- a sum of all that is below another is below that of the other
pub below_le : (n : ℕ) (f g : ℕ → ℕ) → ((k : ℕ) → k < n → f k ≤ g k) → below n f ≤ below n g
below_le zero f g h = omega arith
below_le (suc n) f g h =
    let rest : below n f ≤ below n g = below_le n f g (λ k l. h k (omega arith)) in
    omega (arith, h n (omega arith))

-- a sum over more numbers is no less
pub below_up : (m n : ℕ) (f : ℕ → ℕ) → m ≤ n → below m f ≤ below n f
below_up m zero f l = let e : m ≡ 0 = omega arith in omega (arith, ap (λ k. below k f) e)
below_up m (suc n) f l =
    elim (cases_eq m (suc n)) [
      | inl e ↦ omega (arith, ap (λ k. below k f) e)
      | inr ne ↦ let rest : below m f ≤ below n f = below_up m n f (omega (arith, ne)) in omega arith
    ]

-- nothing from m on
pub below_cut : (m n : ℕ) (f : ℕ → ℕ) → m ≤ n → ((k : ℕ) → m ≤ k → k < n → f k ≡ 0) → below n f ≡ below m f
below_cut m zero f l h = let e : m ≡ 0 = omega arith in sym (ap (λ k. below k f) e)
below_cut m (suc n) f l h =
    elim (cases_eq m (suc n)) [
      | inl e ↦ sym (ap (λ k. below k f) e)
      | inr ne ↦
          let rest : below n f ≡ below m f = below_cut m n f (omega (arith, ne)) (λ k a b. h k a (omega arith)) in
          omega (arith, h n (omega (arith, ne)) (omega arith))
    ]

-- sums in either order
pub below_swap : (m n : ℕ) (f : ℕ → ℕ → ℕ) → below m (λ i. below n (λ j. f i j)) ≡ below n (λ j. below m (λ i. f i j))
below_swap zero n f = sym (below_none n (λ j. 0) (λ k l. refl))
below_swap (suc m) n f = omega (arith, below_swap m n f, below_added n (λ j. below m (λ i. f i j)) (λ j. f m j))

-- all but one are 0
pub below_only : (n i : ℕ) (f : ℕ → ℕ) → i < n → ((k : ℕ) → (k ≡ i → ⊥) → f k ≡ 0) → below n f ≡ f i
below_only n i f l h = omega (arith, below_changed n i f (λ k. 0) l h, below_none n (λ k. 0) (λ k m. refl))

-- one of them has room for v
pub below_gap : (n i v : ℕ) (f g : ℕ → ℕ) → i < n → ((k : ℕ) → k < n → f k ≤ g k) → f i + v ≤ g i → below n f + v ≤ below n g
below_gap zero i v f g l h s = absurd (omega arith)
below_gap (suc n) i v f g l h s =
    elim (cases_eq i n) [
      | inl e ↦
          let rest : below n f ≤ below n g = below_le n f g (λ k m. h k (omega arith)) in
          let here : f n + v ≤ g n = subst (λ (m : ℕ). f m + v ≤ g m) e s in
          omega arith
      | inr ne ↦
          let rest : below n f + v ≤ below n g = below_gap n i v f g (omega (arith, ne)) (λ k m. h k (omega arith)) s in
          omega (arith, h n (omega arith))
    ]

-- a sum holds each of its numbers
pub below_holds : (n i : ℕ) (f : ℕ → ℕ) → i < n → f i ≤ below n f
below_holds n i f l = omega (arith, below_gap n i (f i) (λ k. 0) f l (λ k m. omega arith) (omega arith))

-- and any two of them
pub below_holds_two : (n i j : ℕ) (f : ℕ → ℕ) → i < j → j < n → f i + f j ≤ below n f
below_holds_two n i j f l m = omega (arith, below_holds j i f l, below_up (suc j) n f (omega arith))

-- a sum of more than 0 has a number of more than 0
pub below_some : (n : ℕ) (f : ℕ → ℕ) → 0 < below n f → (k : ℕ) × (k < n) × (0 < f k)
below_some zero f h = absurd (omega arith)
below_some (suc n) f h =
    elim (cases_eq (f n) 0) [
      | inl e ↦ let rest = below_some n f (omega arith) in (rest.0, omega (arith, rest.1), rest.2)
      | inr ne ↦ (n, omega arith, omega (arith, ne))
    ]

-- no two of them are 1
pub below_single : (n : ℕ) (f : ℕ → ℕ) → ((k : ℕ) → k < n → f k ≤ 1) → ((j k : ℕ) → j < k → k < n → 0 < f k → f j ≡ 0) → below n f ≤ 1
below_single zero f h s = omega arith
below_single (suc n) f h s =
    elim (cases_eq (f n) 0) [
      | inl e ↦
          let rest : below n f ≤ 1 = below_single n f (λ k l. h k (omega arith)) (λ j k l m. s j k l (omega arith)) in
          omega arith
      | inr ne ↦
          let some : 0 < f n = omega (arith, ne) in
          let rest : below n f ≡ 0 = below_none n f (λ k l. s k n l (omega arith) some) in
          omega (arith, h n (omega arith))
    ]
