-- The lower bounds that a run keeps: those of the parameters for arrays that are used, by the places where these are declared.
use Rattle.std.specs.Prelude.{◌≡◌, if◌then◌else◌, ℤ, Bool, true, false, List, [], ◌∷◌, Option, Some, None}
use Rattle.std.specs.Option.{option_or}
use Rattle.std.specs.Borrow.{Bor}
use Rattle.std.specs.BTreeMap.{BTreeMap, get}
use Rattle.algol_tree.specs.declared.token.Spot.{Spot}
use Rattle.algol_tree.specs.contracts.token.SpotOrd.TheImpl.{ghosts}
use Rattle.algol_tree.specs.Blocks.{same_spot}
use Rattle.algol_sorts.specs.declared.sort.Sort.{Sort}
use Rattle.algol_sorts.specs.declared.sort.Sort.TheVariants as sort
use Rattle.algol_paths.specs.Arrays.{Lows}
use Rattle.algol_lows.specs.declared.bounds.Lows as bounds
use Rattle.algol_lows.specs.Lows.{lows_found_under}
use Rattle.algol_cells.specs.Shown.{shown_cell}
use Rattle.algol_cells.specs.declared.scope.Use.{Use}

abbrev pub lows_listed : Option Lows → List ℤ
lows_listed None = []
lows_listed (Some lows) = lows.list

-- the lower bounds that are kept of what is declared there, none where none are
abbrev pub kept : BTreeMap Spot bounds.Lows → Spot → List ℤ
kept table spot = lows_listed (lows_found_under table spot)

abbrev pub found_if : Bool → List ℤ → Option (List ℤ)
found_if there lows = if there then Some lows else None

abbrev pub lows_there : Spot → List ℤ → Spot → Option (List ℤ)
lows_there at lows spot = found_if (same_spot at spot) lows

-- it is a parameter for an array, and declared there
abbrev pub is_formal_at : Sort → Spot → Spot → Bool
is_formal_at (sort.FormalArray kind subscripts) at spot = same_spot at spot
is_formal_at _ at spot = false

-- one of these is a use of a parameter for an array that is declared there
abbrev pub is_used_among : List Use → Spot → Bool
is_used_among [] spot = false
is_used_among (u ∷ us) spot = if is_formal_at u.sort u.declared spot then true else is_used_among us spot

abbrev pub lows_used : (Spot → List ℤ) → Use → Spot → Option (List ℤ)
lows_used lows u spot = found_if (is_formal_at u.sort u.declared spot) (lows spot)

abbrev pub lows_from : (Spot → List ℤ) → List Use → Spot → Option (List ℤ)
lows_from lows us spot = found_if (is_used_among us spot) (lows spot)

-- the second table has also what is found at a place where the first has nothing
abbrev pub NamesAdd : BTreeMap Spot (Bor (List ℤ)) → BTreeMap Spot (Bor (List ℤ)) → (Spot → Option (List ℤ)) → Type 0
NamesAdd old new found = (spot : Spot) → shown_cell (get ghosts.cmp new spot) ≡ option_or (shown_cell (get ghosts.cmp old spot)) (found spot)
