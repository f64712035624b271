use Rattle.std.proofs.Common.{ℕ, ◌≤◌}
use Rattle.std.specs.Prelude.{◌≢◌}
use Rattle.b67_stands.specs.Placing.{holder_of}
use Rattle.b67_plant.proofs.Plant.out_with.Given as goal

abbrev pub invariant-processes : goal.invariant-processes
invariant-processes g l = (q : ℕ) → 1 ≤ q → q ≤ l.before → holder_of l.self.out q ≢ l.me
