-- Sums over an account's pledges on a shelf: one place more, how large they can be, and that empty places add nothing.
use Rattle.std.proofs.Common.{◌≡◌, ℕ, ◌+◌, ◌*◌, ◌<◌, ◌≤◌, eqb, List, length, get_or, replicate, set, Some, None, Option, refl, ap, subst, arith, length-set, get_or-set_other, get_or-set_same}
use lib.ListN.{length-replicate, get_or-replicate}
use Rattle.std.proofs.lemmas.List.{get_or_read}
use Rattle.std.proofs.lemmas.Bool.{cond_both, cond-true, eq-eqb}
use Rattle.pledge.specs.Limits.{top_cents}
use Rattle.pledge.specs.Numbers.{Numbers, Rules}
use Rattle.shelf.specs.Limits.{shelf_places, top_cover}
use Rattle.shelf.specs.Places.{at, counted, over, cover_of}
use Rattle.shelf.specs.declared.held.Held.{Held}
use Rattle.shelf.specs.declared.lodging.Lodging.{Lodging}
use Rattle.shelf.specs.Lodgings.{lodging}
use Rattle.sums.specs.Below.{below}
use Rattle.sums.proofs.Sums.{below_more, below_none, below_most, below_changed}

-- f of one place is at most what f is of any pledge
pub counted_most : {P : Type 0} (account : ℕ) (f : P → ℕ) (place : Option (Held P)) (most : ℕ) →
    ((p : P) → f p ≤ most) → counted account f place ≤ most
counted_most account f None most h = omega arith
counted_most account f (Some held) most h =
    cond_both (eqb held.account account) (f held.pledge) 0 (λ x. x ≤ most) (λ _. h held.pledge) (λ _. omega arith)

module _ {P : Type 0} (account : ℕ) (f : P → ℕ) (shelf : List (Option (Held P))) where
  -- the sum below i + 1 has what stands at place i besides
  pub one_more_place : {i : ℕ} {place : Option (Held P)} → i < length shelf → place ≡ get_or shelf i place →
      below (i + 1) (λ k. counted account f (at shelf k)) ≡
      below i (λ k. counted account f (at shelf k)) + counted account f place
  one_more_place {i} {place} within is =
      let here = ap (counted account f) (get_or_read shelf i place within is None) in
      omega (arith, below_more i (λ k. counted account f (at shelf k)))

  pub over_most : (most : ℕ) → ((p : P) → f p ≤ most) → over account f shelf ≤ length shelf * most
  over_most most h =
      below_most (length shelf) most (λ k. counted account f (at shelf k))
      (λ k _. counted_most account f (at shelf k) most h)

  pub over_empty : ((k : ℕ) → k < length shelf → at shelf k ≡ None) → over account f shelf ≡ 0
  over_empty empty =
      below_none (length shelf) (λ k. counted account f (at shelf k))
      (λ k within. ap (counted account f) (empty k within))

-- i places cover at most i times the most of a pledge
pub below_most_cover : {P : Type 0} (n : Numbers P) → Rules n → (shelf : List (Option (Held P))) (account day i : ℕ) →
    below i (λ k. counted account (λ p. n.cover p day) (at shelf k)) ≤ i * top_cents
below_most_cover n rules shelf account day i =
    below_most i top_cents (λ k. counted account (λ p. n.cover p day) (at shelf k))
    (λ k _. counted_most account (λ p. n.cover p day) (at shelf k) top_cents (λ p. rules.cover_most p day))

-- a shelf covers at most `top_cover` for an account
pub cover_most : {P : Type 0} (n : Numbers P) → Rules n → (shelf : List (Option (Held P))) (account day : ℕ) →
    length shelf ≤ shelf_places → cover_of n shelf account day ≤ top_cover
cover_most n rules shelf account day within =
    omega (arith, below_most_cover n rules shelf account day (length shelf))

-- a shelf of empty places covers nothing
pub cover_empty : {P : Type 0} (n : Numbers P) (shelf : List (Option (Held P))) (account day : ℕ) →
    ((k : ℕ) → k < length shelf → at shelf k ≡ None) → cover_of n shelf account day ≡ 0
cover_empty n shelf account day empty = over_empty account (λ p. n.cover p day) shelf empty

-- nor does a new shelf
pub cover_new : {P : Type 0} (n : Numbers P) (places account day : ℕ) → cover_of n (replicate places None) account day ≡ 0
cover_new {P} n places account day =
    let none : Option (Held P) = None in
    cover_empty n (replicate places none) account day
    (λ k within. get_or-replicate places k none none (omega (arith, length-replicate places none)))

-- a sum over an account's pledges after a write to one place
pub over_put : {P : Type 0} (account : ℕ) (f : P → ℕ) (shelf : List (Option (Held P))) (i : ℕ) (o : Option (Held P)) → i < length shelf →
    over account f (set shelf i o) + counted account f (at shelf i) ≡ over account f shelf + counted account f o
over_put account f shelf i o within =
    let after : ℕ → ℕ = λ k. counted account f (at (set shelf i o) k) in
    let before : ℕ → ℕ = λ k. counted account f (at shelf k) in
    let there = ap (counted account f) (get_or-set_same shelf i o None within) in
    let changed = below_changed (length shelf) i after before within (λ k ne. ap (counted account f) (get_or-set_other shelf i k o None ne)) in
    let size = ap (λ n. below n after) (length-set shelf i o) in
    omega arith

-- what a place counts for the account that is backed by what is lodged there
pub lodging_counts : {P : Type 0} (n : Numbers P) (day : ℕ) (o : Option (Held P)) (l : Lodging) → lodging n day o ≡ Some l →
    counted l.account (λ p. n.cover p day) o ≡ l.cover
lodging_counts n day None l e = let z : ◌≡◌ {A = ℕ} 0 1 = cc in absurd (omega arith)
lodging_counts n day (Some held) l e =
    let there : Lodging = record { account = held.account; expiry = n.expiry held.pledge; cover = n.cover held.pledge day } in
    let same : there ≡ l = cc in
    subst (λ (x : Lodging). counted x.account (λ p. n.cover p day) (Some held) ≡ x.cover) same
    (cond-true (eqb held.account held.account) (n.cover held.pledge day) 0 (eq-eqb held.account held.account refl))

-- the cover that is left to an account when a place of its own is emptied
pub cover_emptied : {P : Type 0} (n : Numbers P) (shelf : List (Option (Held P))) (place day : ℕ) (l : Lodging) → place < length shelf →
    lodging n day (at shelf place) ≡ Some l → cover_of n (set shelf place None) l.account day + l.cover ≡ cover_of n shelf l.account day
cover_emptied n shelf place day l within is =
    omega (arith, over_put l.account (λ p. n.cover p day) shelf place None within, lodging_counts n day (at shelf place) l is)
