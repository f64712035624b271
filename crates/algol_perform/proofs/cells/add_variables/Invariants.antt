use Rattle.std.proofs.Common.{◌≡◌, ◌++◌, drop}
use Rattle.algol_meaning.specs.Instances.{variable_cells}
use Rattle.algol_meaning.specs.SeenTree.{decls}
use Rattle.algol_instances.specs.SeenInstance.{named_cells}
use Rattle.algol_perform.proofs.cells.add_variables.Given as goal

abbrev pub invariant-declaring : goal.invariant-declaring
invariant-declaring l =
    named_cells l.cells.items ++ variable_cells (decls (drop l.d-index l.all))
    ≡ named_cells l.initial.cells.items ++ variable_cells (decls l.all)
