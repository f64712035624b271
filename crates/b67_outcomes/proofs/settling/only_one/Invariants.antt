use Rattle.std.proofs.Common.{◌+◌, ◌-◌, ◌≤◌}
use Rattle.b67_outcomes.proofs.Only.{IsOnlyBefore}
use Rattle.b67_outcomes.proofs.settling.only_one.Given as goal

abbrev pub invariant-processes : goal.invariant-processes
invariant-processes g l = IsOnlyBefore (g.W.Walker.image l.walker) l.process l.found × (1 ≤ l.process) × (l.process ≤ l.processes + 1)

abbrev pub decreases-processes : goal.decreases-processes
decreases-processes g l = l.processes + 1 - l.process
