-- A write to one place, and what it changes of a balance and of a sum.
use Rattle.std.proofs.Common.{◌≡◌, ℕ, zero, suc, ◌+◌, ◌<◌, cond, eqb, ◌≢◌, List, [], ◌∷◌, length, get_or, set, replicate, pos, ◌+ℤ◌, None, Option, sym, refl, ap, ◌∙◌, subst, arith, get_or-set_other, get_or-set_same}
use Rattle.std.proofs.lemmas.Int.{ints}
use Rattle.std.proofs.lemmas.Bool.{cond_both, eqb-true, eqb-false}
use Rattle.lending.specs.declared.account.Account.{Account}
use Rattle.table.specs.Accounts.{balance_of}
use Rattle.laws.specs.Sums.{over_places}

-- what g tells of a place after a write that g does not notice
pub unseen : {X Y : Type 0} (g : Option X → Y) (xs : List (Option X)) (i : ℕ) (o : Option X) → g o ≡ g (get_or xs i None) →
    (k : ℕ) → g (get_or (set xs i o) k None) ≡ g (get_or xs k None)
unseen g [] i o e k = refl
unseen g (y ∷ ys) zero o e zero = e
unseen g (y ∷ ys) zero o e (suc k) = refl
unseen g (y ∷ ys) (suc i) o e zero = refl
unseen g (y ∷ ys) (suc i) o e (suc k) = unseen g ys i o e k

-- balances after a write that raises one by c
pub raised : (xs : List (Option Account)) (i c : ℕ) (o : Option Account) → i < length xs →
    balance_of o ≡ (balance_of (get_or xs i None) +ℤ pos c) → (k : ℕ) →
    balance_of (get_or (set xs i o) k None) ≡ (balance_of (get_or xs k None) +ℤ pos (cond (eqb i k) c 0))
raised xs i c o h e k =
    cond_both (eqb i k) c 0 (λ x. balance_of (get_or (set xs i o) k None) ≡ (balance_of (get_or xs k None) +ℤ pos x))
    (λ t. let same : i ≡ k = eqb-true i k t in
    subst (λ (j : ℕ). balance_of (get_or (set xs i o) j None) ≡ (balance_of (get_or xs j None) +ℤ pos c)) same (ap balance_of (get_or-set_same xs i o None h) ∙ e))
    (λ f. let other : k ≢ i = λ q. eqb-false i k f (sym q) in
    let as_it_was : balance_of (get_or (set xs i o) k None) ≡ balance_of (get_or xs k None) = ap balance_of (get_or-set_other xs i k o None other) in
    omega (arith, ints, as_it_was))

-- a sum over the places after a write to one
pub resummed : {X : Type 0} (f : Option X → ℕ) (xs : List (Option X)) (i : ℕ) (o : Option X) → i < length xs →
    over_places f (set xs i o) + f (get_or xs i None) ≡ over_places f xs + f o
resummed f [] i o h = absurd (omega arith)
resummed f (y ∷ ys) zero o h = omega arith
resummed f (y ∷ ys) (suc i) o h = omega (arith, resummed f ys i o (omega arith))

-- nothing is counted over empty places
pub none_counted : {X : Type 0} (f : Option X → ℕ) (n : ℕ) → f None ≡ 0 → over_places f (replicate n None) ≡ 0
none_counted f zero e = refl
none_counted f (suc n) e = omega (arith, none_counted f n e)
