use Rattle.std.proofs.Common.{◌≡◌, ◌++◌, drop}
use Rattle.algol_meaning.specs.Instances.{initial_cells}
use Rattle.algol_instances.specs.SeenInstance.{named_cells}
use Rattle.algol_perform.proofs.cells.add_simple.Given as goal

abbrev pub invariant-naming : goal.invariant-naming
invariant-naming l =
    named_cells l.cells.items ++ initial_cells l.kind (drop l.n-index l.names)
    ≡ named_cells l.initial.cells.items ++ initial_cells l.kind l.names
