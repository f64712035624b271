use Rattle.std.proofs.Common.{◌≡◌, ◌≤◌, length}
use Rattle.std.specs.Prelude.{vec_capacity}
use Rattle.b67_intrinsics.specs.Called.{arguments}
use Rattle.b67_intrinsics.proofs.Numbers.{AreRead}
use Rattle.b67_intrinsics.proofs.marks.whole_arguments.Given as goal

abbrev pub invariant-reading : goal.invariant-reading
invariant-reading g l = record {
  size : length l.items.items ≡ l.n;
  room : l.count ≤ vec_capacity l.items;
  read : AreRead (arguments (g.C.Core.stacks l.fn.core) l.fn.regs) l.items.items l.n;
}
