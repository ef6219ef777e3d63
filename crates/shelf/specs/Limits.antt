-- How large a shelf can be.
use Rattle.std.specs.Prelude.{ℕ, ◌*◌}
use Rattle.pledge.specs.Limits.{top_cents}

-- the most places of a shelf
abbrev pub shelf_places : ℕ
shelf_places = 128

-- the most cents that a shelf covers: in every place a pledge that covers the most, 25,600,000,000,000 in all
abbrev pub top_cover : ℕ
top_cover = shelf_places * top_cents
