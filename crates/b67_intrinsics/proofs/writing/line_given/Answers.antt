use Rattle.b67_intrinsics.specs.Called.{arguments}
use Rattle.b67_intrinsics.proofs.LineTests.{given_exit}
use Rattle.b67_intrinsics.proofs.writing.line_given.Goals as goal

pub returns-in_err-numbers : goal.returns-in_err-numbers
returns-in_err-numbers g c =
    given_exit c.args.code.now (arguments (g.C.Core.stacks c.args.core.now) c.args.regs.now) c.from_residual.result c.in_err-numbers.field-0.0
    c.in_err-numbers.ensures.fault c.from_residual.ensures.1
