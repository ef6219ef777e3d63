-- Sums that are kept for each security, and the sum of a whole list.
use Rattle.std.proofs.Common.{◌≡◌, ℕ, zero, suc, ◌+◌, ◌*◌, ◌<◌, ◌≤◌, cond, eqb, List, length, get_or, set, take, sum, sum_by, sym, refl, ap, ◌∙◌, add-one, arith}
use lib.Seq.{take-length}
use Rattle.std.proofs.lemmas.Bool.Decides.{nat_tests}
use Rattle.std.proofs.lemmas.Grind.{common_steps}
use Rattle.std.proofs.lemmas.List.Sums.{sum_by_more}
use Rattle.sums.specs.Below.{below}
use Rattle.sums.proofs.Sums.{below_same, below_most}

-- n more at place i, and nowhere else
pub added : (sums : List ℕ) (i n s : ℕ) → i < length sums → get_or (set sums i (get_or sums i 0 + n)) s 0 ≡ get_or sums s 0 + cond (eqb i s) n 0
added sums i n s l = grind (arith, common_steps, nat_tests)

sum_front : {X : Type 0} (f : X → ℕ) (d : X) (xs : List X) (i : ℕ) → i ≤ length xs → below i (λ j. f (get_or xs j d)) ≡ sum_by f (take i xs)
sum_front f d xs zero l = refl
sum_front f d xs (suc i) l =
    omega (arith, sum_front f d xs i (omega arith), sum_by_more f xs i d (omega arith), ap (λ n. sum_by f (take n xs)) (add-one i))

-- a sum over the places of a list is that over the list
pub sum_all : {X : Type 0} (f : X → ℕ) (d : X) (xs : List X) → below (length xs) (λ j. f (get_or xs j d)) ≡ sum_by f xs
sum_all f d xs = sum_front f d xs (length xs) (omega arith) ∙ ap (sum_by f) (take-length xs)

-- numbers of at most `most` make at most so many times that
pub sum_most : (most : ℕ) (xs : List ℕ) → ((s : ℕ) → get_or xs s 0 ≤ most) → sum xs ≤ length xs * most
sum_most most xs h = omega (arith, sum_all (λ x. x) 0 xs, below_most (length xs) most (λ s. get_or xs s 0) (λ s l. h s))

-- a list that has the numbers of f, at the places below n, has their sum
pub sum_is : (n total : ℕ) (xs : List ℕ) (f : ℕ → ℕ) → total ≡ sum xs → length xs ≡ n → ((s : ℕ) → get_or xs s 0 ≡ f s) → total ≡ below n f
sum_is n total xs f e long h =
    e ∙ sym (sum_all (λ x. x) 0 xs) ∙ ap (λ m. below m (λ s. get_or xs s 0)) long ∙ below_same n (λ s. get_or xs s 0) f (λ s l. h s)
