use Rattle.b67_operators.proofs.Leaves.{left_frame}
use Rattle.b67_operators.proofs.leaving.leave_frame_in.Goals as goal

pub returns-clause-left : goal.returns-clause-left
returns-clause-left g c =
    let st = g.C.Core.stacks c.args.core.now in
    let rows = g.C.Core.rows c.args.core.now in
    left_frame st rows c.args.all.now.items c.args.process c.args.leaving.now c.args.value c.index_mut-regs.result.now (g.C.Core.stacks c.leave_frame_for.new.core)
    (g.C.Core.rows c.leave_frame_for.new.core) c.leave_frame_for.new.regs c.requires.linked c.index_mut-regs.ensures.value c.leave_frame_for.ensures
