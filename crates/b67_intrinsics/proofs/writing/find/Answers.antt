use Rattle.std.proofs.Common.{subst, sym, Option, OnOk}
use Rattle.b67_control.specs.declared.Registers.{Registers}
use Rattle.b67_intrinsics.specs.Called.{MayLead, IsChained}
use Rattle.b67_intrinsics.specs.Lines.{line_tests_in}
use Rattle.b67_intrinsics.proofs.writing.find.Goals as goal

pub returns-clause-leads : goal.returns-clause-leads
returns-clause-leads g c = λ img s.
    subst (λ (o : Option Registers). MayLead img (line_tests_in c.args.parts.now.code o c.args.mark.now img.stacks) c.find_line.result) (sym c.registers.ensures)
    (c.find_line.ensures.leads img s)

pub returns-clause-within : goal.returns-clause-within
returns-clause-within g c =
    subst (λ (o : Option Registers). OnOk c.find_line.result (IsChained c.args.mark.now o)) (sym c.registers.ensures) c.find_line.ensures.within
