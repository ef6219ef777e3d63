-- What a call reads of the two shelves that are lent to it.
use Rattle.std.specs.Prelude.{ℕ, Bool, not, ◌||◌, ◌==◌}
use Rattle.shelf.specs.Limits.{shelf_places}

pub record Backing : Type 0 where
  -- how many places each shelf has
  pub first_places : ℕ
  pub second_places : ℕ
  -- covers account day: what the account's pledges on both shelves cover on a day
  pub covers : ℕ → ℕ → ℕ

-- whether one of two shelves of so many places has not the places of a shelf
abbrev pub cut : ℕ → ℕ → Bool
cut first second = not (first == shelf_places) || not (second == shelf_places)
