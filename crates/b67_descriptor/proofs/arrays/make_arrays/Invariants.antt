use Rattle.std.proofs.Common.{◌≡◌, ◌≤◌, ◌-◌, length}
use Rattle.std.specs.Prelude.{All, vec_capacity}
use Rattle.b67_control.specs.Control.{Fits_descriptor}
use Rattle.b67_descriptor.specs.Sizes.{extents_of}
use Rattle.b67_descriptor.specs.Arrays.{HaveArrays}
use Rattle.b67_descriptor.proofs.Several.{MakesSome}
use Rattle.b67_descriptor.proofs.arrays.make_arrays.Given as goal

abbrev pub invariant-making : goal.invariant-making
invariant-making g l = record {
  size : length l.arrays.items ≡ l.counter;
  room : l.fn.count ≤ vec_capacity l.arrays;
  fits : All Fits_descriptor l.arrays.items;
  have : HaveArrays (g.C.Core.rows l.fn.core) l.arrays.items l.counter (g.C.Core.rows l.core);
  makes : MakesSome l.fn.count (extents_of l.fn.size) (g.C.Core.rows l.fn.core) (g.C.Core.rows l.core) l.arrays.items (l.fn.count - l.counter);
  stacks : g.C.Core.stacks l.core ≡ g.C.Core.stacks l.fn.core;
}
