use Rattle.std.proofs.Common.{◌≡◌, ◌++◌, length, map, drop}
use Rattle.std.specs.Vec.Iter.{into_iter_items, into_iter_len}
use Rattle.algol_meaning.specs.Instances.{parameter_cells}
use Rattle.algol_cells.specs.SeenCell.{cell}
use Rattle.algol_cells.specs.SeenScope.{parameter}
use Rattle.algol_instances.specs.SeenInstance.{named_cells}
use Rattle.algol_perform.proofs.cells.parameter_cells.Given as goal

abbrev pub invariant-giving : goal.invariant-giving
invariant-giving l =
    (named_cells l.named.items ++ parameter_cells (map parameter (drop (length l.named.items) l.parameters)) (map cell (into_iter_items l.cell-iterator))
    ≡ parameter_cells (map parameter l.parameters) (map cell l.fn.cells.items))
    × (into_iter_len l.cell-iterator ≡ length (into_iter_items l.cell-iterator))
