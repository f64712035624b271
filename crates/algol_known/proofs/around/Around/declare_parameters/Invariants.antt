use Rattle.std.proofs.Common.{◌≡◌, drop, map}
use Rattle.algol_tree.specs.Sorts.{formals_of}
use Rattle.algol_known.specs.Looking.{modes_in, procedure_class}
use Rattle.algol_known.specs.Seeing.{mode_of}
use Rattle.algol_known.specs.Widening.{Admits, parameters_so}
use Rattle.algol_known.proofs.around.Around.declare_parameters.Given as goal

abbrev pub invariant-parameters : goal.invariant-parameters
invariant-parameters l =
    modes_in l.fn.self.procedures.items (procedure_class l.procedure) ≡ map mode_of (formals_of l.h) →
    Admits l.fn.self l.self (parameters_so (record l.h { params = drop l.at l.ns }))
