use Rattle.std.proofs.Common.{◌≡◌, ◌++◌, drop, map}
use Rattle.algol_cells.specs.SeenScope as scope
use Rattle.algol_instances.specs.SeenInstance.{named_cells}
use Rattle.b67_dump.specs.Snapshots.{named_lines, parameter_names}
use Rattle.b67_dump.proofs.blocks.push_parameters.Given as goal

abbrev pub invariant-parameters : goal.invariant-parameters
invariant-parameters l =
    l.lines.items ++ named_lines (named_cells l.cells) (parameter_names (map scope.parameter (drop l.p-index l.parameters)))
    ≡ l.initial.lines.items ++ named_lines (named_cells l.cells) (parameter_names (map scope.parameter l.parameters))
