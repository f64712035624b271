use Rattle.std.proofs.Common.{◌≡◌, ◌++◌, ℤ, List, drop, map}
use Rattle.algol_tree.specs.declared.token.Spot.{Spot}
use Rattle.algol_tree.specs.Blocks.{number_at}
use Rattle.algol_cells.specs.SeenScope.{used}
use Rattle.algol_scope.specs.Resolved.{declaration_of}
use Rattle.algol_names.specs.Blocks.{blocks_in}
use Rattle.algol_names.specs.Meant.{uses_told}
use Rattle.algol_names.proofs.uses.uses_of.Given as goal

abbrev pub invariant-names : goal.invariant-names
invariant-names l =
    (lows : Spot → List ℤ) →
    map (used lows (number_at (blocks_in l.blocks))) l.uses.items ++ uses_told (declaration_of l.scopes) lows (blocks_in l.blocks) (drop l.found-index l.names)
    ≡ uses_told (declaration_of l.scopes) lows (blocks_in l.blocks) l.names
