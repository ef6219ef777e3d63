-- What a book reads of the pledge in a place.
use Rattle.std.specs.Prelude.{ℕ, Some, None, Option}
use Rattle.pledge.specs.Numbers.{Numbers}
use Rattle.shelf.specs.declared.held.Held.{Held}
use Rattle.shelf.specs.declared.lodging.Lodging.{Lodging}

-- lodging n day place: the account that the pledge in a place backs, its expiry, and its cover on a day
abbrev pub lodging : {P : Type 0} → Numbers P → ℕ → Option (Held P) → Option Lodging
lodging n day None = None
lodging n day (Some held) = Some (record { account = held.account; expiry = n.expiry held.pledge; cover = n.cover held.pledge day })
