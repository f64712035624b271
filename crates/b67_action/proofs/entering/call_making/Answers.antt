use Rattle.std.proofs.Common.{sym, subst}
use Rattle.b67_list.specs.Numbered.{numbered}
use Rattle.b67_ops.specs.declared.intrinsic.Intrinsic.{Intrinsic}
use Rattle.b67_table.specs.Intrinsics.{row_of_intrinsic}
use Rattle.b67_intrinsics.specs.Called.{called_in, Tries}
use Rattle.b67_reach.specs.Images.{image_of}
use Rattle.b67_action.proofs.entering.call_making.Goals as goal

pub returns-in-Arrays-clause-tries : goal.returns-in-Arrays-clause-tries
returns-in-Arrays-clause-tries g c =
    subst (λ (n : Intrinsic). Tries c.args.process (called_in (row_of_intrinsic n) c.args.parts.now.code (numbered c.args.parts.now.regs.items c.args.process) c.args.next c.args.mark.now) (image_of (g.C.Core.stacks c.args.core.now) (g.C.Core.rows c.args.core.now) c.args.kernel.now c.args.parts.now) (image_of (g.C.Core.stacks c.arrays.new.core) (g.C.Core.rows c.arrays.new.core) c.args.kernel.now c.arrays.new.parts) c.arrays.result)
    (sym c.in-Arrays.is) (c.arrays.ensures.acts c.args.kernel.now)

pub returns-in-Write-clause-tries : goal.returns-in-Write-clause-tries
returns-in-Write-clause-tries g c =
    subst (λ (n : Intrinsic). Tries c.args.process (called_in (row_of_intrinsic n) c.args.parts.now.code (numbered c.args.parts.now.regs.items c.args.process) c.args.next c.args.mark.now) (image_of (g.C.Core.stacks c.args.core.now) (g.C.Core.rows c.args.core.now) c.args.kernel.now c.args.parts.now) (image_of (g.C.Core.stacks c.write.new.core) (g.C.Core.rows c.write.new.core) c.args.kernel.now c.write.new.parts) c.write.result)
    (sym c.in-Write.is) (c.write.ensures.acts c.args.kernel.now)
