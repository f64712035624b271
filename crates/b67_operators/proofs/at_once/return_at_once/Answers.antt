use Rattle.b67_reach.specs.Images.{image_of}
use Rattle.b67_operators.proofs.AtOnce.{well}
use Rattle.b67_operators.proofs.Leaves.{value_goes}
use Rattle.b67_operators.proofs.at_once.return_at_once.Goals as goal

pub returns-in-Ok-clause-left : goal.returns-in-Ok-clause-left
returns-in-Ok-clause-left g c = λ done next.
    let img = image_of (g.C.Core.stacks c.args.core.now) (g.C.Core.rows c.args.core.now) c.args.kernel.now c.args.parts.now in
    let new = image_of (g.C.Core.stacks c.leave_at_once.new.core) (g.C.Core.rows c.leave_at_once.new.core) c.leave_at_once.new.kernel c.leave_at_once.new.parts in
    value_goes img c.registers.result.now next c.args.process c.registers.ensures new well c.in-Ok.word c.in-Ok.ensures (c.leave_at_once.ensures.left done next)
