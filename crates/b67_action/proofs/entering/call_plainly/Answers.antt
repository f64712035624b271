use Rattle.std.proofs.Common.{refl, sym, subst}
use Rattle.b67_list.specs.Numbered.{numbered}
use Rattle.b67_ops.specs.declared.intrinsic.Intrinsic.{Intrinsic}
use Rattle.b67_table.specs.Intrinsics.{row_of_intrinsic}
use Rattle.b67_table.specs.Program.{Program}
use Rattle.b67_intrinsics.specs.Called.{called_in}
use Rattle.b67_reach.specs.Images.{image_of}
use Rattle.b67_reach.specs.Answers.{ProgramActs}
use Rattle.b67_action.specs.Among.{with_all}
use Rattle.b67_action.proofs.Calling.{select_is}
use Rattle.b67_action.proofs.entering.call_plainly.Goals as goal

pub returns-in-GoTo-clause-acts : goal.returns-in-GoTo-clause-acts
returns-in-GoTo-clause-acts g c =
    subst (λ (n : Intrinsic). ProgramActs c.args.process (called_in (row_of_intrinsic n) c.args.parts.now.code (numbered c.args.parts.now.regs.items c.args.process) c.args.next c.args.mark.now) (image_of (g.C.Core.stacks c.args.core.now) (g.C.Core.rows c.args.core.now) c.args.kernel.now c.args.parts.now) (image_of (g.C.Core.stacks c.go_to.new.core) (g.C.Core.rows c.go_to.new.core) c.go_to.new.kernel c.go_to.new.parts) c.go_to.result)
    (sym c.in-GoTo.is) (c.go_to.ensures.acts c.args.next c.args.mark.now)

pub returns-in-Select-clause-acts : goal.returns-in-Select-clause-acts
returns-in-Select-clause-acts g c =
    let img = image_of (g.C.Core.stacks c.args.core.now) (g.C.Core.rows c.args.core.now) c.args.kernel.now c.args.parts.now in
    let new = with_all (g.C.Core.stacks c.select_in.new.core) (g.C.Core.rows c.select_in.new.core) c.select_in.new.all.items img in
    subst (λ (n : Intrinsic). ProgramActs c.args.process (called_in (row_of_intrinsic n) c.args.parts.now.code (numbered c.args.parts.now.regs.items c.args.process) c.args.next c.args.mark.now) img new c.select_in.result)
    (sym c.in-Select.is)
    (subst (λ (q : Program). ProgramActs c.args.process q img new c.select_in.result)
    (select_is c.args.parts.now.code c.args.mark.now (numbered c.args.parts.now.regs.items c.args.process) c.args.next)
    (c.select_in.ensures.acts c.args.parts.now.code c.args.next img refl refl refl))
