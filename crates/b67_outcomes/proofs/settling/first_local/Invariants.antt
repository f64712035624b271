use Rattle.std.proofs.Common.{◌≡◌, ℕ, ◌+◌, ◌-◌, ◌≤◌}
use Rattle.b67_outcomes.proofs.settling.first_local.Given as goal

abbrev pub invariant-processes : goal.invariant-processes
invariant-processes g l =
    (g.W.Walker.code l.walker ≡ g.W.Walker.code l.fn.walker) × (g.W.Walker.image l.walker ≡ g.W.Walker.image l.fn.walker) × (l.process ≤ l.processes + 1)
    × ((k : ℕ) → g.W.Walker.Room l.fn.walker k → g.W.Walker.Room l.walker k)

abbrev pub decreases-processes : goal.decreases-processes
decreases-processes g l = l.processes + 1 - l.process
