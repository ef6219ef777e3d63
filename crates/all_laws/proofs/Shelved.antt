-- In the calling hour: what a pledge taken and a pledge handed back do to the accounts that are watched.
use Rattle.std.proofs.Common.{◌≡◌, ℕ, ◌<◌, ◌≤◌, Bool, true, false, not, ◌||◌, eqb, leb, List, length, set, pos, is_some, Some, None, Option, sym, refl, ap, ◌∙◌, subst, inl, inr, arith}
use lib.Signed.{lt_z}
use Rattle.std.proofs.lemmas.Int.{ints}
use Rattle.std.proofs.lemmas.Bool.{true≢false, cases_Bool, cases_eq, and_cases, or_parts, leb-false, eqb-true, not-false, cond-true, cond-false}
use Rattle.pledge.specs.Numbers.{Numbers, Rules}
use Rattle.shelf.specs.declared.held.Held.{Held}
use Rattle.shelf.specs.declared.lodging.Lodging.{Lodging}
use Rattle.shelf.specs.Limits.{shelf_places}
use Rattle.shelf.specs.Lodgings.{lodging}
use Rattle.shelf.specs.Places.{at, counted, cover_of}
use Rattle.shelf.proofs.Cover.{over_put}
use Rattle.table.specs.declared.refusal.Refusal.{Refusal}
use Rattle.table.specs.declared.table.Table.{Table}
use Rattle.table.specs.Act.{first, also}
use Rattle.table.specs.Tables.{account_at}
use Rattle.table.proofs.Causes.{clear}
use Rattle.margin.specs.Backing.{cut}
use Rattle.margin.specs.Margins.{target_at, short_at}
use Rattle.margin.specs.Pledges.{pledge_causes, release_causes, target_causes, backed, expiry_in}
use Rattle.book.specs.declared.pledged.Pledged.{Pledged}
use Rattle.book.specs.declared.pledged.Pledged.TheVariants.{First, Second}
use Rattle.book.specs.Shelves.{Shelves, backing, with_first, with_second, emptied}
use Rattle.book.specs.Collateral.{filled, expiry_of, lodged, lodging_today, cover_without, pledge_act, release_act}
use Rattle.all_laws.proofs.Measured.{is_reached, not_short, short_with_less}
use Rattle.all_laws.proofs.Watch.{Watched, watched_still, covers_watched}

-- shelves that are not refused are whole
whole : (f s : ℕ) → cut f s ≡ false → (f ≡ shelf_places) × (s ≡ shelf_places)
whole f s e =
    let parts = or_parts (not (eqb f shelf_places)) (not (eqb s shelf_places)) e in
    (eqb-true f shelf_places (not-false (eqb f shelf_places) parts.0), eqb-true s shelf_places (not-false (eqb s shelf_places) parts.1))

-- their places are there
within : (f s x : ℕ) (other : Bool) → ((cut f s || other) || leb shelf_places x) ≡ false → (x < f) × (x < s)
within f s x other e =
    let parts = or_parts (cut f s || other) (leb shelf_places x) e in
    let sizes = whole f s (or_parts (cut f s) other parts.0).0 in
    let low = leb-false shelf_places x parts.1 in
    (omega arith, omega arith)

-- an empty place filled lowers no cover
filled_more : {P : Type 0} (n : Numbers P) (shelf : List (Option (Held P))) (place k day : ℕ) (o : Option (Held P)) → place < length shelf →
    is_some (at shelf place) ≡ false → cover_of n shelf k day ≤ cover_of n (set shelf place o) k day
filled_more {P} n shelf place k day o l e =
    omega (arith, over_put k (λ p. n.cover p day) shelf place o l, none (at shelf place) e)
  where
    none : (x : Option (Held P)) → is_some x ≡ false → counted k (λ p. n.cover p day) x ≡ 0
    none None q = refl
    none (Some h) q = absurd (true≢false q)

-- a place counts nothing for an account that it does not back, nor after its expiry
counts_nothing : {P : Type 0} (n : Numbers P) → Rules n → (day : ℕ) (o : Option (Held P)) (k : ℕ) →
    (backed (lodging n day o) ≡ k → expiry_in (lodging n day o) < day) → counted k (λ p. n.cover p day) o ≡ 0
counts_nothing n rules day None k h = refl
counts_nothing n rules day (Some held) k h =
    elim (cases_Bool (eqb held.account k)) [
      | inl e ↦
          let over = h (eqb-true held.account k e) in
          cond-true (eqb held.account k) (n.cover held.pledge day) 0 e ∙ rules.cover_ends held.pledge day (omega arith)
      | inr ne ↦ cond-false (eqb held.account k) (n.cover held.pledge day) 0 ne
    ]

-- so emptying it leaves the cover as it was
emptied_same : {P : Type 0} (n : Numbers P) → Rules n → (shelf : List (Option (Held P))) (place k day : ℕ) → place < length shelf →
    (backed (lodging n day (at shelf place)) ≡ k → expiry_in (lodging n day (at shelf place)) < day) →
    cover_of n (set shelf place None) k day ≡ cover_of n shelf k day
emptied_same n rules shelf place k day l h =
    omega (arith, over_put k (λ p. n.cover p day) shelf place None l, counts_nothing n rules day (at shelf place) k h)

-- neither of two causes
also_none : (a b : Option Refusal) → also a b ≡ None → (a ≡ None) × (b ≡ None)
also_none None b e = (refl, e)
also_none (Some x) b e = let z : ◌≡◌ {A = ℕ} 0 1 = cc in absurd (omega arith)

module _ {P Q : Type 0} (n : Numbers P) (m : Numbers Q) (t : Table) (s : Shelves P Q) where
  pledge_more : (account place : ℕ) (p : Pledged P Q) → (pledge_act n m t account place p).cause s ≡ None → (k day : ℕ) →
      (backing n m s).covers k day ≤ (backing n m (lodged n m s account place p)).covers k day
  pledge_more account place (First p) e k day =
      let ok = clear (pledge_causes t (length s.first) (length s.second) account place (filled n m s place (First p)) (expiry_of n m (First p))) e in
      let there = within (length s.first) (length s.second) place (leb 64 account) ok.0 in
      omega (arith, filled_more n s.first place k day (Some (record { account = account; pledge = p })) there.0 ok.1.1.0)
  pledge_more account place (Second q) e k day =
      let ok = clear (pledge_causes t (length s.first) (length s.second) account place (filled n m s place (Second q)) (expiry_of n m (Second q))) e in
      let there = within (length s.first) (length s.second) place (leb 64 account) ok.0 in
      omega (arith, filled_more m s.second place k day (Some (record { account = account; pledge = q })) there.1 ok.1.1.0)

  pub pledge_watched : (account place : ℕ) (p : Pledged P Q) → (pledge_act n m t account place p).cause s ≡ None →
      Watched (backing n m s) t → Watched (backing n m (lodged n m s account place p)) t
  pledge_watched account place p e =
      covers_watched (backing n m s) (backing n m (lodged n m s account place p)) t (λ k. pledge_more account place p e k t.day)

  module _ (rules-n : Rules n) (rules-m : Rules m) (shelf place : ℕ) where
    -- what is lodged there
    abbrev there : Option Lodging
    there = lodging_today n m t s shelf place

    left_same : (k : ℕ) → place < length s.first → place < length s.second → (backed there ≡ k → expiry_in there < t.day) →
        (backing n m (emptied s shelf place)).covers k t.day ≡ (backing n m s).covers k t.day
    left_same k f g h =
        elim (cases_Bool (eqb shelf 0)) [
          | inl first ↦
              let is = cond-true (eqb shelf 0) (lodging n t.day (at s.first place)) (lodging m t.day (at s.second place)) first in
              let after = ap (λ (x : Shelves P Q). (backing n m x).covers k t.day) (cond-true (eqb shelf 0) (with_first s place None) (with_second s place None) first) in
              omega (arith, after, emptied_same n rules-n s.first place k t.day f (subst (λ (x : Option Lodging). backed x ≡ k → expiry_in x < t.day) is h))
          | inr second ↦
              let is = cond-false (eqb shelf 0) (lodging n t.day (at s.first place)) (lodging m t.day (at s.second place)) second in
              let after = ap (λ (x : Shelves P Q). (backing n m x).covers k t.day) (cond-false (eqb shelf 0) (with_first s place None) (with_second s place None) second) in
              omega (arith, after, emptied_same m rules-m s.second place k t.day g (subst (λ (x : Option Lodging). backed x ≡ k → expiry_in x < t.day) is h))
        ]

    pub release_watched : (release_act n m t shelf place).cause s ≡ None → Watched (backing n m s) t → Watched (backing n m (emptied s shelf place)) t
    release_watched e before =
        let both = also_none (first (release_causes t (length s.first) (length s.second) shelf place there)) _ e in
        let ok = clear (release_causes t (length s.first) (length s.second) shelf place there) both.0 in
        let places = within (length s.first) (length s.second) place (leb 2 shelf) ok.0 in
        let enough = (clear (target_causes t (account_at t (backed there)) (expiry_in there) (cover_without n m t s shelf place)) both.1).0 in
        let as_before : (k : ℕ) → (backed there ≡ k → expiry_in there < t.day) → short_at (backing n m (emptied s shelf place)) t k ≡ true → short_at (backing n m s) t k ≡ true =
        λ k h q. short_with_less t (account_at t k) (account_at t k) ((backing n m s).covers k t.day) ((backing n m (emptied s shelf place)).covers k t.day) refl refl (omega (arith, ints, left_same k places.0 places.1 h)) q in
        watched_still (backing n m s) (backing n m (emptied s shelf place)) t before (λ k l q.
        elim (and_cases (leb t.day (expiry_in there)) (lt_z (cover_without n m t s shelf place) (pos (target_at t (backed there)))) enough) [
          | inl over ↦ as_before k (λ _. leb-false t.day (expiry_in there) over) q
          | inr reached ↦
              elim (cases_eq (backed there) k) [
                | inl e ↦
                    let here = subst (λ (j : ℕ). short_at (backing n m (emptied s shelf place)) t j ≡ true) (sym e) q in
                    absurd (not_short t (account_at t (backed there)) ((backing n m (emptied s shelf place)).covers (backed there) t.day) (is_reached (cover_without n m t s shelf place) (target_at t (backed there)) reached) here)
                | inr ne ↦ as_before k (λ same. absurd (ne same)) q
              ]
        ])
