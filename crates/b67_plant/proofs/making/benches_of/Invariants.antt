use Rattle.std.proofs.Common.{◌≡◌, ◌-◌, ◌≤◌, false, All, length}
use Rattle.b67_plant.proofs.making.benches_of.Given as goal

abbrev pub invariant-benches : goal.invariant-benches
invariant-benches g l = (length l.benches.items ≤ l.processors) × All (λ bench. bench.ahead.is_there ≡ false) l.benches.items

abbrev pub decreases-benches : goal.decreases-benches
decreases-benches g l = l.processors - length l.benches.items
