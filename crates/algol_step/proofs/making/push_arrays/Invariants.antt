use Rattle.std.proofs.Common.{◌≡◌, ◌++◌, drop, map}
use Rattle.algol_meaning.specs.Arrays as arrays
use Rattle.algol_cells.specs.SeenCell as seen
use Rattle.algol_instances.specs.SeenInstance.{named_cells}
use Rattle.algol_step.proofs.making.push_arrays.Given as goal

abbrev pub invariant-making : goal.invariant-making
invariant-making l =
    named_cells l.cells.items ++ arrays.new_arrays l.kind (map seen.bounds l.bounds) (drop l.n-index l.names)
    ≡ named_cells l.initial.cells.items ++ arrays.new_arrays l.kind (map seen.bounds l.bounds) l.names
