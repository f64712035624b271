use Rattle.std.proofs.Common.{◌≡◌}
use Rattle.b67_descriptor.proofs.Filled.{Filled}
use Rattle.b67_descriptor.proofs.arrays.make_rows.Given as goal

abbrev pub invariant-filling : goal.invariant-filling
invariant-filling g l = record {
  filled : Filled (g.C.Core.rows l.fn.core) (g.C.Core.rows l.initial.core) (g.C.Core.rows l.core) l.mother l.fn.rows l.fn.columns l.at;
  stacks : g.C.Core.stacks l.core ≡ g.C.Core.stacks l.fn.core;
}
