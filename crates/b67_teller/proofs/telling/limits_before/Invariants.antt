use Rattle.std.proofs.Common.{◌≤◌, ◌-◌, length}
use Rattle.b67_teller.proofs.telling.limits_before.Given as goal

abbrev pub invariant-limits : goal.invariant-limits
invariant-limits l = (l.from ≤ l.at) × (l.at ≤ length l.found.limits.items)

abbrev pub decreases-limits : goal.decreases-limits
decreases-limits l = length l.found.limits.items - l.at
