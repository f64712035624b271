use Rattle.b67_table.specs.Private.{frame}
use Rattle.b67_reach.specs.Images.{image_of}
use Rattle.b67_operators.proofs.AtOnce.{well}
use Rattle.b67_operators.proofs.Leaves.{exit_leaves, not_zero}
use Rattle.b67_operators.proofs.at_once.exit_at_once.Goals as goal

pub returns-else-frame_of-eq0-clause-left : goal.returns-else-frame_of-eq0-clause-left
returns-else-frame_of-eq0-clause-left g c = λ done next.
    let img = image_of (g.C.Core.stacks c.args.core.now) (g.C.Core.rows c.args.core.now) c.args.kernel.now c.args.parts.now in
    let new = image_of (g.C.Core.stacks c.leave_at_once.new.core) (g.C.Core.rows c.leave_at_once.new.core) c.leave_at_once.new.kernel c.leave_at_once.new.parts in
    exit_leaves c.args.process img new c.registers.result.now c.registers.ensures next well
    (not_zero c.frame_of.result (frame c.registers.result.now) c.frame_of.ensures c.if-frame_of-eq0.false) (c.leave_at_once.ensures.left done next)
