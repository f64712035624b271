use Rattle.std.proofs.Common.{sym, subst, Option}
use Rattle.b67_control.specs.declared.Registers.{Registers}
use Rattle.b67_intrinsics.specs.Called.{IntrinsicLeads, several_tests_in, these}
use Rattle.b67_intrinsics.proofs.waiting.find.Goals as goal

pub returns-clause-leads : goal.returns-clause-leads
returns-clause-leads g c = λ img s e.
    subst (λ (o : Option Registers). IntrinsicLeads img (several_tests_in o c.args.mark.now img.stacks) (these c.find_events.result c.find_events.new.places))
    (sym c.registers.ensures) (c.find_events.ensures.leads img s e)
