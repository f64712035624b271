use Rattle.b67_load.proofs.Built.{is_first}
use Rattle.b67_load.proofs.first.load.Goals as goal

pub returns-clause-image : goal.returns-clause-image
returns-clause-image g c =
    let made = c.in_ok-made.made in
    is_first (g.C.Core.stacks c.args.core.now) (g.C.Core.stacks c.open_first.new.core) (g.C.Core.rows c.args.core.now) (g.C.Core.rows c.open_first.new.core) made.0.events made.0.lists made.1.regs.items made.1.states.items made.1.numbers.items made.1.output.items made.1.started
    c.in_ok-open_first.ensures.opened c.open_first.ensures.rows c.in_ok-made.ensures.events c.in_ok-made.ensures.lists c.in_ok-made.ensures.regs c.in_ok-made.ensures.states c.in_ok-made.ensures.numbers
    c.in_ok-made.ensures.output c.in_ok-made.ensures.started
