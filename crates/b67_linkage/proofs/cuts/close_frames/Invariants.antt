use Rattle.std.proofs.Common.{◌≡◌, ◌+◌, ◌≤◌}
use Rattle.b67_store.specs.Store.{words_of}
use Rattle.b67_table.specs.Look.{look_seen, found, ◌>->◌}
use Rattle.b67_table.specs.GoingTo.{Passing, passing}
use Rattle.b67_linkage.specs.Closing.{without_frames, AreShort}
use Rattle.b67_linkage.specs.Leaving.{target_cells, target_rows}
use Rattle.b67_linkage.proofs.cuts.close_frames.Given as goal

abbrev pub invariant-down : goal.invariant-down
invariant-down g l = record {
  stacks : g.C.Core.stacks l.core ≡ g.C.Core.stacks l.initial.core;
  short : AreShort (g.C.Core.rows l.core);
  within : l.at + 2 + l.count ≤ l.from.at + 2 + l.cells;
  met : look_seen (g.C.Core.stacks l.initial.core) (target_cells l.from l.cells l.target) ≡ look_seen (g.C.Core.stacks l.initial.core) (passing l.steps l.from.stack l.target (record { frame = l.at; cells = l.count }) >-> (λ (p : Passing). found p.cells));
  rest : look_seen (g.C.Core.stacks l.initial.core) (target_rows (words_of (g.C.Core.stacks l.initial.core) l.from.stack) (g.C.Core.rows l.initial.core) l.from l.cells l.target) ≡ look_seen (g.C.Core.stacks l.initial.core) (passing l.steps l.from.stack l.target (record { frame = l.at; cells = l.count }) >-> (λ (p : Passing). found (without_frames (words_of (g.C.Core.stacks l.initial.core) l.from.stack) p.frames (g.C.Core.rows l.core))));
}

abbrev pub decreases-down : goal.decreases-down
decreases-down g l = l.steps
