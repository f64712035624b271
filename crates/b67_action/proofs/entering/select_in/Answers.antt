use Rattle.b67_action.specs.Acting.{selects}
use Rattle.b67_action.proofs.Among.{acts_in}
use Rattle.b67_action.proofs.entering.select_in.Goals as goal

pub returns-clause-acts : goal.returns-clause-acts
returns-clause-acts g c = λ code next.
    acts_in (g.C.Core.stacks c.args.core.now) (g.C.Core.rows c.args.core.now) c.args.all.now.items c.args.process c.index_mut-regs.result.now c.requires.linked
    c.index_mut-regs.ensures.value (selects code c.args.mark.now) next (g.C.Core.stacks c.select.new.core) (g.C.Core.rows c.select.new.core) c.select.new.regs
    c.select.result (c.select.ensures code next)
