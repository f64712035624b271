use Rattle.std.proofs.Common.{◌≡◌, ◌≤◌, length}
use Rattle.b67_store.specs.Store.{Rows}
use Rattle.b67_descriptor.specs.Arrays.{HaveArrays}
use Rattle.b67_descriptor.proofs.arrays.close_arrays.Given as goal

abbrev pub invariant-closing : goal.invariant-closing
invariant-closing g l = record {
  within : l.left ≤ length l.fn.arrays;
  have : (before : Rows) → HaveArrays before l.fn.arrays (length l.fn.arrays) (g.C.Core.rows l.initial.core) → HaveArrays before l.fn.arrays l.left (g.C.Core.rows l.core);
  stacks : g.C.Core.stacks l.core ≡ g.C.Core.stacks l.initial.core;
}

abbrev pub decreases-closing : goal.decreases-closing
decreases-closing g l = l.left
