use Rattle.std.proofs.Common.{◌≡◌, ◌++◌, map, drop}
use Rattle.algol_cells.specs.SeenScope.{parameter}
use Rattle.algol_names.proofs.Said.{parameter_in}
use Rattle.algol_names.proofs.blocks.parameters_of.Given as goal

abbrev pub invariant-parameters : goal.invariant-parameters
invariant-parameters l =
    map parameter l.all.items ++ map (parameter_in l.fn.h) (drop l.n-index l.n-items) ≡ map (parameter_in l.fn.h) l.fn.h.params
