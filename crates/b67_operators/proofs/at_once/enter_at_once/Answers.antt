use Rattle.std.proofs.Common.{arith}
use Rattle.b67_reach.specs.Images.{own_of_image}
use Rattle.b67_operators.proofs.AtOnce.{enters_at_once}
use Rattle.b67_operators.proofs.at_once.enter_at_once.Goals as goal

pub returns-clause-entered : goal.returns-clause-entered
returns-clause-entered g c = λ done code.
    let old = own_of_image (g.C.Core.stacks c.args.core.now) (g.C.Core.rows c.args.core.now) c.args.regs.now in
    let new = own_of_image (g.C.Core.stacks c.open_shown.new.core) (g.C.Core.rows c.open_shown.new.core) c.open_shown.new.regs in
    enters_at_once code old new c.args.next c.in-Ok.called c.in-Some.home c.in-Ok.ensures.value c.if-called.false c.in-Some.is
    (omega (arith, c.if-regs-from-gt511.false, c.from-2.ensures)) (c.enters_shown.ensures c.if-not-enters_shown.false) c.open_shown.ensures

pub returns-clause-calls : goal.returns-clause-calls
returns-clause-calls g c = λ done. (c.in-Ok.called, c.in-Ok.ensures.value, c.if-called.false)
