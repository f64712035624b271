use Rattle.std.proofs.Common.{◌≡◌, ◌++◌, drop}
use Rattle.algol_cells.specs.Placed.{places_of_blocks}
use Rattle.algol_cells.proofs.table.block_places.Given as goal

abbrev pub invariant-placing : goal.invariant-placing
invariant-placing l = l.spots.items ++ places_of_blocks (drop l.b-index l.blocks) ≡ places_of_blocks l.fn.blocks
