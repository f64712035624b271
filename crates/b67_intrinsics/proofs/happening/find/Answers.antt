use Rattle.std.proofs.Common.{subst, sym, Option, OnOk}
use Rattle.b67_control.specs.declared.Registers.{Registers}
use Rattle.b67_intrinsics.specs.Called.{IntrinsicLeads, event_tests_in, IsChained}
use Rattle.b67_intrinsics.proofs.happening.find.Goals as goal

pub returns-clause-leads : goal.returns-clause-leads
returns-clause-leads g c = λ img s e.
    subst (λ (o : Option Registers). IntrinsicLeads img (event_tests_in o c.args.mark.now img.stacks) c.find_event.result) (sym c.registers.ensures)
    (c.find_event.ensures.leads img s e)

pub returns-clause-within : goal.returns-clause-within
returns-clause-within g c =
    subst (λ (o : Option Registers). OnOk c.find_event.result (IsChained c.args.mark.now o)) (sym c.registers.ensures) c.find_event.ensures.within
