use Rattle.std.proofs.Common.{slice_get}
use Rattle.b67_intrinsics.specs.Called.{arguments}
use Rattle.b67_intrinsics.proofs.ManyEvents.{tells_stop_at, tells_place}
use Rattle.b67_intrinsics.proofs.finding.event_at.Goals as goal

pub returns-in_err-cell-clause-told : goal.returns-in_err-cell-clause-told
returns-in_err-cell-clause-told g c = λ img s e.
    tells_stop_at img c.args.regs.now (slice_get (arguments (g.C.Core.stacks c.args.core.now) c.args.regs.now) c.args.n) c.argument-word.result
    c.from_residual.result c.in_err-cell.field-0.0 c.argument-word.ensures c.from_residual.ensures.1 (c.in_err-cell.ensures.told img s e)

pub returns-clause-told : goal.returns-clause-told
returns-clause-told g c = λ img s e.
    tells_place img c.args.regs.now (slice_get (arguments (g.C.Core.stacks c.args.core.now) c.args.regs.now) c.args.n) c.argument-word.result
    c.in_ok-cell.cell c.argument-word.ensures (c.in_ok-cell.ensures.told img s e)
