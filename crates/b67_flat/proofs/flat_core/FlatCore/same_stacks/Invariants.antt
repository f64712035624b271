use Rattle.std.proofs.Common.{◌≡◌, ℕ, ◌<◌}
use Rattle.b67_store.specs.Store.{at_number}
use Rattle.b67_flat.proofs.flat_core.FlatCore.same_stacks.Given as goal

abbrev pub invariant-stacks : goal.invariant-stacks
invariant-stacks l = (k : ℕ) → k < l.number → at_number l.self.stacks k ≡ at_number l.other.stacks k
