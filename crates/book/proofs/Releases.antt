-- A pledge that is handed back.
use Rattle.std.proofs.Common.{◌≡◌, ℕ, ◌+◌, ◌<◌, eqb, length, Some, None, sym, ap, ◌∙◌, inl, inr, arith}
use Rattle.std.proofs.lemmas.Bool.{cases_Bool, cond-true, cond-false}
use Rattle.pledge.specs.Numbers.{Numbers}
use Rattle.shelf.specs.declared.lodging.Lodging.{Lodging}
use Rattle.shelf.specs.Places.{at}
use Rattle.shelf.specs.Lodgings.{lodging}
use Rattle.shelf.proofs.Cover.{cover_emptied}
use Rattle.table.specs.Act.{first}
use Rattle.book.specs.Shelves.{Shelves, backing, with_first, with_second, emptied, lodging_on}

module _ {P Q : Type 0} (n : Numbers P) (m : Numbers Q) (s : Shelves P Q) where
  -- what the account's pledges cover without one of them
  pub covers_without : (day shelf place : ℕ) (l : Lodging) → place < length s.first → place < length s.second →
      lodging_on n m s day shelf place ≡ Some l →
      (backing n m (emptied s shelf place)).covers l.account day + l.cover ≡ (backing n m s).covers l.account day
  covers_without day shelf place l f g is =
      elim (cases_Bool (eqb shelf 0)) [
        | inl first ↦
            let there = sym (cond-true (eqb shelf 0) (lodging n day (at s.first place)) (lodging m day (at s.second place)) first) ∙ is in
            let after = ap (λ (x : Shelves P Q). (backing n m x).covers l.account day) (cond-true (eqb shelf 0) (with_first s place None) (with_second s place None) first) in
            omega (arith, after, cover_emptied n s.first place day l f there)
        | inr second ↦
            let there = sym (cond-false (eqb shelf 0) (lodging n day (at s.first place)) (lodging m day (at s.second place)) second) ∙ is in
            let after = ap (λ (x : Shelves P Q). (backing n m x).covers l.account day) (cond-false (eqb shelf 0) (with_first s place None) (with_second s place None) second) in
            omega (arith, after, cover_emptied m s.second place day l g there)
      ]
