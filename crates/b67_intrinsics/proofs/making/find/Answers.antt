use Rattle.std.proofs.Common.{subst, sym, Option, OnOk}
use Rattle.b67_control.specs.declared.Registers.{Registers}
use Rattle.b67_intrinsics.specs.Called.{IntrinsicLeads, mark_tests_in, IsChained}
use Rattle.b67_intrinsics.proofs.making.find.Goals as goal

pub returns-clause-leads : goal.returns-clause-leads
returns-clause-leads g c = λ img s.
    subst (λ (o : Option Registers). IntrinsicLeads img (mark_tests_in o c.args.mark.now img.stacks) c.find_mark.result) (sym c.registers.ensures)
    (c.find_mark.ensures.leads img s)

pub returns-clause-within : goal.returns-clause-within
returns-clause-within g c =
    subst (λ (o : Option Registers). OnOk c.find_mark.result (IsChained c.args.mark.now o)) (sym c.registers.ensures) c.find_mark.ensures.within
