use Rattle.std.proofs.Common.{◌≡◌, [], length, take}
use Rattle.b67_flat.specs.Flat.{rows_of}
use Rattle.b67_flat.proofs.flat_core.again.FlatCoreAgain.clear_from.Given as goal

abbrev pub invariant-stacks : goal.invariant-stacks
invariant-stacks l = record {
  kept : take l.stack l.self.stacks ≡ take l.stack l.initial.self.stacks;
  rows : rows_of l.self ≡ [];
}

abbrev pub decreases-stacks : goal.decreases-stacks
decreases-stacks l = length l.self.stacks
