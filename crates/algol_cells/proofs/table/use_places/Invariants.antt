use Rattle.std.proofs.Common.{◌≡◌, ◌++◌, drop}
use Rattle.algol_cells.specs.Placed.{places_of_uses}
use Rattle.algol_cells.proofs.table.use_places.Given as goal

abbrev pub invariant-placing : goal.invariant-placing
invariant-placing l = l.spots.items ++ places_of_uses (drop l.u-index l.uses) ≡ places_of_uses l.fn.uses
