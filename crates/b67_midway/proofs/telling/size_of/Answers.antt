use Rattle.b67_midway.proofs.Showing.{size_so}
use Rattle.b67_midway.proofs.telling.size_of.Goals as goal

pub returns-clause-all : goal.returns-clause-all
returns-clause-all g c = size_so c.args.machine.now.image c.args.process c.args.regs.now c.copy_private.new.into c.requires.own c.copy_private.ensures.part c.copy_private.ensures.whole
