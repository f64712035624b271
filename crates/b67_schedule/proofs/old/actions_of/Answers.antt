use Rattle.std.proofs.Common.{arith}
use Rattle.b67_schedule.proofs.Counted.{actions_fit}
use Rattle.b67_schedule.proofs.old.actions_of.Goals as goal

pub overflow_add-actions : goal.overflow_add-actions
overflow_add-actions c =
    let fits = actions_fit c.args.runs.now c.runs.run-index record { process = 0; times = 0 } c.requires c.runs-test.true in
    omega (arith, c.runs.invariant, c.from-actions.ensures, fits)
