-- Which names can be assigned to at a place.
use Rattle.std.specs.Prelude.{◌&&◌, ◌||◌, Bool, true, false, List, Some, is_some}
use Rattle.std.specs.List.{list_any}
use Rattle.algol_tree.specs.declared.token.Spot.{Spot}
use Rattle.algol_tree.specs.Blocks.{same_spot}
use Rattle.algol_tree.specs.Classes as class
use Rattle.algol_tree.specs.Classes.{Class}
use Rattle.algol_sorts.specs.declared.sort.Sort.{Sort}
use Rattle.algol_sorts.specs.declared.sort.Sort.TheVariants as sort

-- the place is inside the procedure whose name stands there, by the places of the block and of those around it
abbrev pub is_within : Spot → List Spot → Spot → Bool
is_within block around procedure = same_spot block procedure || list_any (λ (b : Spot). same_spot procedure b) around

-- a simple variable, a simple parameter, or the typed procedure around the place; nothing is said against what is unknown
abbrev pub can_take : Spot → List Spot → Class → Bool
can_take block around (class.simple kind) = true
can_take block around (class.procedure h) = is_some h.kind && is_within block around h.name.spot
can_take block around class.unknown = true
can_take block around _ = false

-- the same by what is told: a procedure by the place of its heading with the body
abbrev pub takes : Spot → List Spot → Sort → Spot → Bool
takes block around (sort.Variable kind) declared = true
takes block around (sort.ByName kind) declared = true
takes block around (sort.Procedure (Some kind)) declared = is_within block around declared
takes block around sort.Unspecified declared = true
takes block around _ declared = false
