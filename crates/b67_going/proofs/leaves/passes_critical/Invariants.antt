use Rattle.std.proofs.Common.{◌≡◌}
use Rattle.b67_table.specs.Look.{look_seen, found, ◌>->◌}
use Rattle.b67_table.specs.GoingTo.{Passing, passing}
use Rattle.b67_table.specs.Questions.{live_criticals}
use Rattle.b67_going.specs.Leaves.{passes_critical}
use Rattle.b67_going.proofs.Left.{either}
use Rattle.b67_going.proofs.leaves.passes_critical.Given as goal

abbrev pub invariant-down : goal.invariant-down
invariant-down g l = record {
  rest : look_seen (g.C.Core.stacks l.fn.core) (passes_critical (live_criticals l.fn.states l.fn.regs) l.fn.from l.fn.cells l.fn.target) ≡ look_seen (g.C.Core.stacks l.fn.core) (passing l.steps l.fn.from.stack l.fn.target (record { frame = l.at; cells = l.count }) >-> (λ (p : Passing). found (either l.fn.from.stack (live_criticals l.fn.states l.fn.regs) l.critical p)));
}

abbrev pub decreases-down : goal.decreases-down
decreases-down g l = l.steps
