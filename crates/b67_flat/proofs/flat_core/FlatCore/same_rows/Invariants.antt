use Rattle.std.proofs.Common.{◌≡◌, ℕ, ◌<◌}
use Rattle.b67_store.specs.Store.{at_number}
use Rattle.b67_flat.specs.Flat.{rows_of}
use Rattle.b67_flat.proofs.flat_core.FlatCore.same_rows.Given as goal

abbrev pub invariant-rows : goal.invariant-rows
invariant-rows l = (k : ℕ) → k < l.number → at_number (rows_of l.self) k ≡ at_number (rows_of l.other) k
