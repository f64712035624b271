use Rattle.std.proofs.Common.{◌≡◌}
use Rattle.b67_store.specs.Store.{Rows}
use Rattle.b67_descriptor.specs.Arrays.{HasMore}
use Rattle.b67_descriptor.proofs.arrays.close_rows.Given as goal

abbrev pub invariant-closing : goal.invariant-closing
invariant-closing g l = record {
  more : (before : Rows) → HasMore before (g.C.Core.rows l.initial.core) l.fn.mother 0 l.fn.to → HasMore before (g.C.Core.rows l.core) l.fn.mother l.at l.fn.to;
  stacks : g.C.Core.stacks l.core ≡ g.C.Core.stacks l.initial.core;
}
