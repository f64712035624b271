use Rattle.b67_action.specs.Among.{entry_program}
use Rattle.b67_action.proofs.Among.{acts_in}
use Rattle.b67_action.proofs.words.enter_procedure.Goals as goal

pub returns-clause-acts : goal.returns-clause-acts
returns-clause-acts g c =
    acts_in (g.C.Core.stacks c.args.core.now) (g.C.Core.rows c.args.core.now) c.args.all.now.items c.args.process c.index_mut-regs.result.now c.requires.linked
    c.index_mut-regs.ensures.value (entry_program c.args.called.now) c.args.next (g.C.Core.stacks c.entry.new.core) (g.C.Core.rows c.entry.new.core) c.entry.new.regs
    c.entry.result c.entry.ensures
