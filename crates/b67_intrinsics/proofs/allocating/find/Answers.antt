use Rattle.std.proofs.Common.{subst, sym, Option}
use Rattle.b67_control.specs.declared.Registers.{Registers}
use Rattle.b67_intrinsics.specs.Called.{MayLead}
use Rattle.b67_intrinsics.specs.Arrays.{as_order, array_tests_in}
use Rattle.b67_intrinsics.proofs.allocating.find.Goals as goal

pub returns-clause-leads : goal.returns-clause-leads
returns-clause-leads g c = λ img s t.
    subst (λ (o : Option Registers). MayLead img (array_tests_in o c.args.mark.now img.stacks) (as_order c.find_order.result)) (sym c.registers.ensures)
    (c.find_order.ensures.leads img s t)
