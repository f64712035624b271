use Rattle.std.proofs.Common.{◌≡◌, ◌+◌, ◌≤◌}
use Rattle.b67_table.specs.Look.{look_seen, found, ◌>->◌}
use Rattle.b67_table.specs.GoingTo.{Passing, passing}
use Rattle.b67_linkage.specs.Leaving.{target_cells}
use Rattle.b67_linkage.proofs.cuts.target_cells.Given as goal

abbrev pub invariant-down : goal.invariant-down
invariant-down g l = record {
  within : l.at + 2 + l.count ≤ l.from.at + 2 + l.cells;
  rest : look_seen (g.C.Core.stacks l.fn.core) (target_cells l.from l.cells l.target) ≡ look_seen (g.C.Core.stacks l.fn.core) (passing l.steps l.from.stack l.target (record { frame = l.at; cells = l.count }) >-> (λ (p : Passing). found p.cells));
}

abbrev pub decreases-down : goal.decreases-down
decreases-down g l = l.steps
