use Rattle.b67_action.proofs.Among.{does_in}
use Rattle.b67_action.proofs.own.perform_own_in.Goals as goal

pub returns-clause-does : goal.returns-clause-does
returns-clause-does g c =
    does_in (g.C.Core.stacks c.args.core.now) (g.C.Core.rows c.args.core.now) c.args.all.now.items c.args.process c.index_mut-regs.result.now c.requires.linked
    c.index_mut-regs.ensures.value c.args.op.now c.args.next (g.C.Core.stacks c.perform_own.new.core) (g.C.Core.rows c.perform_own.new.core) c.perform_own.new.regs
    c.perform_own.result c.perform_own.ensures
