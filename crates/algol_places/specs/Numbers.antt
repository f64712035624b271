-- The number of the first of the places that is equal to one. Places are numbered from 0.
use Rattle.std.specs.Prelude.{ℕ, ◌+◌, if◌then◌else◌, List, [], ◌∷◌, Option, Some, None}
use Rattle.algol_tree.specs.declared.token.Spot.{Spot}
use Rattle.algol_tree.specs.Blocks.{same_spot}

-- where the first of these has the number k
abbrev pub number_from : ℕ → List Spot → Spot → Option ℕ
number_from k [] spot = None
number_from k (p ∷ ps) spot = if same_spot p spot then Some k else number_from (k + 1) ps spot

abbrev pub place_number_of : List Spot → Spot → Option ℕ
place_number_of ps spot = number_from 0 ps spot
