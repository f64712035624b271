use Rattle.b67_operators.proofs.Leaves.{left_base}
use Rattle.b67_operators.proofs.leaving.leave_base_in.Goals as goal

pub returns-clause-left : goal.returns-clause-left
returns-clause-left g c =
    left_base (g.C.Core.stacks c.args.core.now) (g.C.Core.rows c.args.core.now) c.args.all.now.items c.args.process c.args.place c.index_mut-regs.result.now
    (g.C.Core.stacks c.leave_base.new.core) (g.C.Core.rows c.leave_base.new.core) c.requires c.index_mut-regs.ensures.value c.leave_base.ensures
