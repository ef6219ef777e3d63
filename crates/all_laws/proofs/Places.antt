-- A write to one place, and what it changes of a balance and of a sum.
use Rattle.std.proofs.Common.{◌≡◌, ℕ, zero, suc, ◌+◌, ◌<◌, cond, eqb, ◌≢◌, List, [], ◌∷◌, length, get_or, set, replicate, pos, ◌+ℤ◌, None, Option, sym, refl, ap, ◌∙◌, subst, arith, length-set, get_or-set_other, get_or-set_same}
use Rattle.std.proofs.lemmas.Int.{ints}
use Rattle.std.proofs.lemmas.Bool.{cond_both, eqb-true, eqb-false}
use Rattle.lending.specs.declared.account.Account.{Account}
use Rattle.table.specs.Accounts.{balance_of}
use Rattle.sums.specs.Below.{below}
use Rattle.sums.proofs.Sums.{below_changed, below_none}

-- what g tells of a place after a write that g does not notice
pub unseen : {X Y : Type 0} (g : Option X → Y) (xs : List (Option X)) (i : ℕ) (o : Option X) → g o ≡ g (get_or xs i None) →
    (k : ℕ) → g (get_or (set xs i o) k None) ≡ g (get_or xs k None)
unseen g [] i o e k = refl
unseen g (y ∷ ys) zero o e zero = e
unseen g (y ∷ ys) zero o e (suc k) = refl
unseen g (y ∷ ys) (suc i) o e zero = refl
unseen g (y ∷ ys) (suc i) o e (suc k) = unseen g ys i o e k

-- balances after a write that raises one by c
pub raised : (xs : List (Option Account)) (i c : ℕ) (o : Option Account) → i < length xs →
    balance_of o ≡ (balance_of (get_or xs i None) +ℤ pos c) → (k : ℕ) →
    balance_of (get_or (set xs i o) k None) ≡ (balance_of (get_or xs k None) +ℤ pos (cond (eqb i k) c 0))
raised xs i c o h e k =
    cond_both (eqb i k) c 0 (λ x. balance_of (get_or (set xs i o) k None) ≡ (balance_of (get_or xs k None) +ℤ pos x))
    (λ t. let same : i ≡ k = eqb-true i k t in
    subst (λ (j : ℕ). balance_of (get_or (set xs i o) j None) ≡ (balance_of (get_or xs j None) +ℤ pos c)) same (ap balance_of (get_or-set_same xs i o None h) ∙ e))
    (λ f. let other : k ≢ i = λ q. eqb-false i k f (sym q) in
    let as_it_was : balance_of (get_or (set xs i o) k None) ≡ balance_of (get_or xs k None) = ap balance_of (get_or-set_other xs i k o None other) in
    omega (arith, ints, as_it_was))

-- balances after a write that takes c off one
pub lowered : (xs : List (Option Account)) (i c : ℕ) (o : Option Account) → i < length xs →
    (balance_of o +ℤ pos c) ≡ balance_of (get_or xs i None) → (k : ℕ) →
    (balance_of (get_or (set xs i o) k None) +ℤ pos (cond (eqb i k) c 0)) ≡ balance_of (get_or xs k None)
lowered xs i c o h e k =
    cond_both (eqb i k) c 0 (λ x. (balance_of (get_or (set xs i o) k None) +ℤ pos x) ≡ balance_of (get_or xs k None))
    (λ t. let same : i ≡ k = eqb-true i k t in
    subst (λ (j : ℕ). (balance_of (get_or (set xs i o) j None) +ℤ pos c) ≡ balance_of (get_or xs j None)) same (ap (λ (p : Option Account). balance_of p +ℤ pos c) (get_or-set_same xs i o None h) ∙ e))
    (λ f. let other : k ≢ i = λ q. eqb-false i k f (sym q) in
    let as_it_was : balance_of (get_or (set xs i o) k None) ≡ balance_of (get_or xs k None) = ap balance_of (get_or-set_other xs i k o None other) in
    omega (arith, ints, as_it_was))

-- a sum over the places after a write to one
pub resummed : {X : Type 0} (f : Option X → ℕ) (xs : List (Option X)) (i : ℕ) (o : Option X) → i < length xs →
    below (length (set xs i o)) (λ k. f (get_or (set xs i o) k None)) + f (get_or xs i None) ≡ below (length xs) (λ k. f (get_or xs k None)) + f o
resummed f xs i o within =
    let after : ℕ → ℕ = λ k. f (get_or (set xs i o) k None) in
    let before : ℕ → ℕ = λ k. f (get_or xs k None) in
    let changed = below_changed (length xs) i after before within (λ k ne. ap f (get_or-set_other xs i k o None ne)) in
    let there = ap f (get_or-set_same xs i o None within) in
    let size = ap (λ n. below n after) (length-set xs i o) in
    omega arith

-- nothing is counted over empty places
empty_place : {X : Type 0} (n k : ℕ) → ◌≡◌ {A = Option X} (get_or (replicate n None) k None) None
empty_place zero k = refl
empty_place (suc n) zero = refl
empty_place (suc n) (suc k) = empty_place n k

pub none_counted : {X : Type 0} (f : Option X → ℕ) (n : ℕ) (xs : List (Option X)) → xs ≡ replicate n None → f None ≡ 0 →
    below (length xs) (λ k. f (get_or xs k None)) ≡ 0
none_counted {X} f n xs none e =
    below_none (length xs) (λ k. f (get_or xs k None)) (λ k _. ap (λ (ys : List (Option X)). f (get_or ys k None)) none ∙ ap f (empty_place n k) ∙ e)
