use Rattle.std.proofs.Common.{◌≡◌, ℕ, ◌≤◌, None}
use Rattle.b67_store.specs.Store.{at_number}
use Rattle.b67_flat.specs.Flat.{rows_of}
use Rattle.b67_flat.proofs.flat_core.FlatCore.clear_rows.Given as goal

abbrev pub invariant-rows : goal.invariant-rows
invariant-rows l = record {
  stacks : l.self.stacks ≡ l.initial.self.stacks;
  closed : (k : ℕ) → l.left ≤ k → at_number (rows_of l.self) k ≡ None;
}

abbrev pub decreases-rows : goal.decreases-rows
decreases-rows l = l.left
