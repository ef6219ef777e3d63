-- The two shelves that are lent to a book's calls, and what a call reads and changes of them.
use Rattle.std.specs.Prelude.{ℕ, ◌+◌, cond, List, length, None, Option, ◌==◌, slice_set}
use Rattle.pledge.specs.Numbers.{Numbers}
use Rattle.shelf.specs.declared.held.Held.{Held}
use Rattle.shelf.specs.declared.lodging.Lodging.{Lodging}
use Rattle.shelf.specs.Places.{at, cover_of}
use Rattle.shelf.specs.Lodgings.{lodging}
use Rattle.margin.specs.Backing.{Backing}

pub record Shelves (P Q : Type 0) : Type 0 where
  pub first : List (Option (Held P))
  pub second : List (Option (Held Q))

module _ {P Q : Type 0} where
  abbrev pub both : List (Option (Held P)) → List (Option (Held Q)) → Shelves P Q
  both first second = record { first = first; second = second }

  -- with a place of the first shelf, or of the second, written anew
  abbrev pub with_first : Shelves P Q → ℕ → Option (Held P) → Shelves P Q
  with_first s place o = both (slice_set s.first place o) s.second

  abbrev pub with_second : Shelves P Q → ℕ → Option (Held Q) → Shelves P Q
  with_second s place o = both s.first (slice_set s.second place o)

  -- with a place of a shelf by its number emptied: 0 is the first shelf
  abbrev pub emptied : Shelves P Q → ℕ → ℕ → Shelves P Q
  emptied s shelf place = cond (shelf == 0) (with_first s place None) (with_second s place None)

  module _ (n : Numbers P) (m : Numbers Q) where
    -- their places, and what they cover for an account on a day
    abbrev pub backing : Shelves P Q → Backing
    backing s = record {
      first_places = length s.first;
      second_places = length s.second;
      covers = λ account day. cover_of n s.first account day + cover_of m s.second account day;
    }

    -- what is lodged in a place of a shelf by its number
    abbrev pub lodging_on : Shelves P Q → ℕ → ℕ → ℕ → Option Lodging
    lodging_on s day shelf place = cond (shelf == 0) (lodging n day (at s.first place)) (lodging m day (at s.second place))
