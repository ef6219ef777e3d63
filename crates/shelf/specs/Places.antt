-- What the places of a shelf come to for one account. A place is empty, or holds a pledge that backs an account.
use Rattle.std.specs.Prelude.{ℕ, cond, List, map, length, Some, None, Option, ◌==◌, slice_index_or}
use Rattle.pledge.specs.Numbers.{Numbers}
use Rattle.sums.specs.Below.{below}
use Rattle.shelf.specs.declared.held.Held.{Held}

-- at shelf k: what stands at place k; past the end of the shelf, nothing
abbrev pub at : {P : Type 0} → List (Option (Held P)) → ℕ → Option (Held P)
at shelf k = slice_index_or shelf k None

-- counted account f place: the number f of the pledge in a place, if it backs the account, and else 0
abbrev pub counted : {P : Type 0} → ℕ → (P → ℕ) → Option (Held P) → ℕ
counted account f None = 0
counted account f (Some held) = cond (held.account == account) (f held.pledge) 0

-- over account f shelf: the sum of f over the account's pledges on a shelf
abbrev pub over : {P : Type 0} → ℕ → (P → ℕ) → List (Option (Held P)) → ℕ
over account f shelf = below (length shelf) (λ k. counted account f (at shelf k))

-- cover_of n shelf account day: what the account's pledges on a shelf cover on a day
abbrev pub cover_of : {P : Type 0} → Numbers P → List (Option (Held P)) → ℕ → ℕ → ℕ
cover_of n shelf account day = over account (λ p. n.cover p day) shelf

-- spared account place: what is left of a place when the account's pledges are handed back
abbrev pub spared : {P : Type 0} → ℕ → Option (Held P) → Option (Held P)
spared account None = None
spared account (Some held) = cond (held.account == account) None (Some held)

-- cleared account shelf: the shelf without the account's pledges
abbrev pub cleared : {P : Type 0} → ℕ → List (Option (Held P)) → List (Option (Held P))
cleared account shelf = map (spared account) shelf
