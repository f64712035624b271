-- The uses of names that are found in a tree, from what its scopes tell of them.
use Rattle.std.specs.Prelude.{ℕ, ◌-◌, ℤ, Bool, true, false, List, [], ◌∷◌, Option, Some, None}
use Rattle.std.specs.List.{flat_map}
use Rattle.algol_tree.specs.declared.token.Spot.{Spot}
use Rattle.algol_tree.specs.Blocks.{Block, number_at}
use Rattle.algol_tree.specs.Scopes as scoping
use Rattle.algol_tree.specs.Scopes.{left_use}
use Rattle.algol_frames.specs.declared.scopes.Declared.{Declared}
use Rattle.algol_cells.specs.SeenScope.{sort_as, used}
use Rattle.algol_cells.specs.declared.scope.Use.{Use}
use Rattle.algol_names.specs.declared.found.Found.{Found}

abbrev pub used_by : (Spot → List ℤ) → (Spot → ℕ) → Option Use → List scoping.Use
used_by lows number None = []
used_by lows number (Some u) = used lows number u ∷ []

-- on the left of an assignment, or not
abbrev pub left_or : Bool → scoping.Use → scoping.Use
left_or true u = left_use u u.sort
left_or false u = u

-- `declared`: what the scopes tell; `lows`: the lower bounds by the places of declarations
module _ (declared : Spot → Option Declared) (lows : Spot → List ℤ) (blocks : List Block) where
  abbrev pub use_by : Found → Option Declared → List scoping.Use
  use_by f None = []
  use_by f (Some d) =
      left_or f.is_left (record { spot = f.spot; block = d.block; up = f.around - (d.level - 1); sort = sort_as d.sort (lows d.spot) (number_at blocks d.spot) }) ∷ []

  abbrev pub use_told : Found → List scoping.Use
  use_told f = use_by f (declared f.spot)

  abbrev pub uses_told : List Found → List scoping.Use
  uses_told fs = flat_map use_told fs
