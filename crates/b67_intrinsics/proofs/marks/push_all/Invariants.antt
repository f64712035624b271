use Rattle.std.proofs.Common.{◌≡◌, ◌+◌, length, IsSome}
use Rattle.b67_store.specs.Store.{stack_at, words_of}
use Rattle.b67_intrinsics.proofs.Pushing.{ArePushed}
use Rattle.b67_intrinsics.proofs.marks.push_all.Given as goal

abbrev pub invariant-pushing : goal.invariant-pushing
invariant-pushing g l = record {
  pushed : ArePushed (g.C.Core.stacks l.initial.core) (g.C.Core.stacks l.core) l.fn.stack l.fn.arrays l.at;
  opened : IsSome (stack_at (g.C.Core.stacks l.core) l.fn.stack);
  size : length (words_of (g.C.Core.stacks l.core) l.fn.stack) ≡ length (words_of (g.C.Core.stacks l.initial.core) l.fn.stack) + l.at;
  rows : g.C.Core.rows l.core ≡ g.C.Core.rows l.initial.core;
}
