use Rattle.b67_table.specs.Private.{frame}
use Rattle.b67_reach.specs.Images.{image_of}
use Rattle.b67_operators.proofs.Leaves.{exit_leaves, not_zero}
use Rattle.b67_operators.proofs.leaving.exit.Goals as goal

pub returns-else-frame_of-eq0-clause-acts : goal.returns-else-frame_of-eq0-clause-acts
returns-else-frame_of-eq0-clause-acts g c =
    let img = image_of (g.C.Core.stacks c.args.core.now) (g.C.Core.rows c.args.core.now) c.args.kernel.now c.args.parts.now in
    let new = image_of (g.C.Core.stacks c.leave.new.core) (g.C.Core.rows c.leave.new.core) c.leave.new.kernel c.leave.new.parts in
    exit_leaves c.args.process img new c.registers.result.now c.registers.ensures c.args.next c.leave.result
    (not_zero c.frame_of.result (frame c.registers.result.now) c.frame_of.ensures c.if-frame_of-eq0.false) (c.leave.ensures.acts c.args.next)
