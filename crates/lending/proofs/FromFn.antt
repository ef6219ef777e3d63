-- An array that is made by a function of the place.
use Rattle.std.proofs.Common.{◌≡◌, ℕ, zero, suc, ◌+◌, ◌<◌, ◌≤◌, List, map, get_or, sym, ◌∙◌, subst, inl, inr, arith}
use Rattle.std.proofs.lemmas.Bool.{cases_eq}
use Rattle.std.proofs.lemmas.List.FromFn.{fill_by_all}
use Rattle.std.specs.Array.{IsFromFnResult, IsFromFnResultFrom}
use Rattle.std.specs.Fn.{Called}
use Rattle.std.specs.List.{range_with_len}
use denote.Param.Members.{Mut}

-- a closure that stays as it is, and gives v at each place
module _ {F B : Type 0} (g : Mut F (ℕ × Unit {0}) B) (f : F) (v : ℕ → B) (same : (k : ℕ) (y : B) (q : F) → Called g f (k, tt) y q → (y ≡ v k) × (q ≡ f)) where
  at_place : (ys : List B) (i n : ℕ) → IsFromFnResultFrom g f ys i n → (k : ℕ) (d : B) → i ≤ k → k < i + n → get_or ys k d ≡ v k
  at_place ys i zero h k d l m = absurd (omega arith)
  at_place ys i (suc n) h k d l m =
      let one = same i h.1 h.0 h.3 in
      elim (cases_eq k i) [
        | inl e ↦ subst (λ (j : ℕ). get_or ys j d ≡ v j) (sym e) (h.2.1 d ∙ one.0)
        | inr ne ↦ at_place ys (i + 1) n (subst (λ (p : F). IsFromFnResultFrom g p ys (i + 1) n) one.1 h.4) k d (omega (arith, ne)) (omega arith)
      ]

  pub from_fn_is : (ys : List B) (n : ℕ) (d : B) → IsFromFnResult g f ys n → ys ≡ map v (range_with_len 0 n)
  from_fn_is ys n d h = fill_by_all v ys n d h.long (λ k l. at_place ys 0 n h.each k d (omega arith) (omega arith))
