use Rattle.std.proofs.Common.{◌≡◌, ℕ}
use Rattle.b67_table.specs.Look.{look_seen, found, ◌>->◌}
use Rattle.b67_table.specs.GoingTo.{Passing, passing}
use Rattle.b67_linkage.specs.Leaving.{target_cells}
use Rattle.b67_going.specs.Leaves.{target_events, without_events}
use Rattle.b67_going.proofs.leaves.close_events.Given as goal

abbrev pub invariant-down : goal.invariant-down
invariant-down g l =
    (count : ℕ) × (l.kernel.room ≡ l.initial.kernel.room)
    × (look_seen (g.C.Core.stacks l.fn.core) (target_cells l.fn.from l.fn.cells l.fn.target) ≡ look_seen (g.C.Core.stacks l.fn.core) (passing l.steps l.fn.from.stack l.fn.target (record { frame = l.at; cells = count }) >-> (λ (p : Passing). found p.cells)))
    × (look_seen (g.C.Core.stacks l.fn.core) (target_events l.initial.kernel.events l.fn.from l.fn.cells l.fn.target) ≡ look_seen (g.C.Core.stacks l.fn.core) (passing l.steps l.fn.from.stack l.fn.target (record { frame = l.at; cells = count }) >-> (λ (p : Passing). found (without_events l.fn.from.stack p.frames l.kernel.events))))
    × (l.kernel.lists ≡ l.initial.kernel.lists)

abbrev pub decreases-down : goal.decreases-down
decreases-down g l = l.steps
