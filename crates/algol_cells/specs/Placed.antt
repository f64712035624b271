-- Where blocks and uses of names stand.
use Rattle.std.specs.Prelude.{List, map}
use Rattle.algol_tree.specs.declared.token.Spot.{Spot}
use Rattle.algol_cells.specs.declared.scope.Use.{Use}
use Rattle.algol_cells.specs.declared.scope.Block.{Block}

abbrev pub places_of_blocks : List Block → List Spot
places_of_blocks bs = map (λ (b : Block). b.spot) bs

abbrev pub places_of_uses : List Use → List Spot
places_of_uses us = map (λ (u : Use). u.spot) us
