use Rattle.std.proofs.Common.{◌≡◌, ◌-◌, ◌+◌, ◌≤◌, take, drop}
use Rattle.b67_store.specs.Store.{words_of}
use Rattle.b67_linkage.specs.Closing.{without_arrays, cells_in_frame, AreShort}
use Rattle.b67_linkage.proofs.arrays.close_arrays.Given as goal

abbrev pub invariant-cells : goal.invariant-cells
invariant-cells g l = record {
  stacks : g.C.Core.stacks l.core ≡ g.C.Core.stacks l.initial.core;
  short : AreShort (g.C.Core.rows l.core);
  within : l.index ≤ l.cells;
  rest : without_arrays (take (l.cells - l.index) (drop (l.frame.at + 2 + l.index) (words_of (g.C.Core.stacks l.initial.core) l.frame.stack))) (g.C.Core.rows l.core) ≡ without_arrays (cells_in_frame (words_of (g.C.Core.stacks l.initial.core) l.frame.stack) l.frame.at l.cells) (g.C.Core.rows l.initial.core);
}

abbrev pub decreases-cells : goal.decreases-cells
decreases-cells g l = l.cells - l.index
