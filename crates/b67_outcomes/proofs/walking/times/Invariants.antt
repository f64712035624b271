use Rattle.std.proofs.Common.{◌≡◌, ◌-◌, ◌≤◌, ◌++◌, drop, get_or}
use Rattle.std.specs.Prelude.{replicate}
use Rattle.b67_outcomes.proofs.walking.times.Given as goal

-- so many entries of the process were found
abbrev pub invariant-same : goal.invariant-same
invariant-same l =
    (1 ≤ l.count) × (l.count ≤ l.left)
    × (drop (l.left - l.count) l.history ≡ replicate l.count (get_or l.history (l.left - 1) 0) ++ drop l.left l.history)

abbrev pub decreases-same : goal.decreases-same
decreases-same l = l.left - l.count
