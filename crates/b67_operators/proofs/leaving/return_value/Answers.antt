use Rattle.b67_reach.specs.Images.{image_of}
use Rattle.b67_operators.proofs.Leaves.{value_stops, value_goes, acts_exit}
use Rattle.b67_operators.proofs.leaving.return_value.Goals as goal

pub returns-in_err-word-clause-acts : goal.returns-in_err-word-clause-acts
returns-in_err-word-clause-acts g c =
    let img = image_of (g.C.Core.stacks c.args.core.now) (g.C.Core.rows c.args.core.now) c.args.kernel.now c.args.parts.now in
    acts_exit c.args.process _ img img c.from_residual.result c.in_err-word.field-0.0 c.from_residual.ensures.1
    (value_stops img c.registers.result.now c.args.next c.args.process c.registers.ensures c.in_err-word.field-0.0 c.in_err-word.ensures)

pub returns-clause-acts : goal.returns-clause-acts
returns-clause-acts g c =
    let img = image_of (g.C.Core.stacks c.args.core.now) (g.C.Core.rows c.args.core.now) c.args.kernel.now c.args.parts.now in
    let new = image_of (g.C.Core.stacks c.leave.new.core) (g.C.Core.rows c.leave.new.core) c.leave.new.kernel c.leave.new.parts in
    value_goes img c.registers.result.now c.args.next c.args.process c.registers.ensures new c.leave.result c.in_ok-word.word c.in_ok-word.ensures (c.leave.ensures.acts c.args.next)
