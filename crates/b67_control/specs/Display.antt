-- The display: for each level from 0 to 31 the place of the frame that runs at that level, where there is one.
use Rattle.std.specs.Prelude.{ℕ, List, Option, None, replicate, slice_index_or}
use Rattle.b67_word.specs.declared.Place.{Place}

-- how many levels there are
abbrev pub levels : ℕ
levels = 32

-- a display that names nothing
abbrev pub no_places : List (Option Place)
no_places = replicate levels None

-- what a display names at a level
abbrev pub place_at : List (Option Place) → ℕ → Option Place
place_at display level = slice_index_or display level None
