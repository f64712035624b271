-- Displays that name nothing above a level, and what becomes of one where a frame is entered or left.
use Rattle.std.specs.Prelude.{◌≡◌, ℕ, ◌+◌, ◌-◌, List, [], ◌∷◌, ◌++◌, length, take, drop, replicate, Option, Some, None}
use Rattle.b67_word.specs.declared.Place.{Place}
use Rattle.b67_control.specs.Display.{levels}
use Rattle.b67_table.specs.Chains.{place}

-- it names stack 0, nothing at level 1, and nothing above this level
pub record IsShown (level : ℕ) (display : List (Option Place)) : Type 0 where
  pub size : length display ≡ levels
  pub begins : take 2 display ≡ Some (place 0 0) ∷ None ∷ []
  pub ends : drop (level + 1) display ≡ replicate (levels - (level + 1)) None

-- the same below a level, a frame at it, and nothing above
abbrev pub shown_at : List (Option Place) → Place → ℕ → List (Option Place)
shown_at display top level = take level display ++ Some top ∷ replicate (levels - (level + 1)) None
