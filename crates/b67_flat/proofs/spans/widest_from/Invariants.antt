use Rattle.std.proofs.Common.{ℕ, ◌-◌, ◌<◌, ◌≤◌}
use Rattle.std.specs.Vec.{vec_len}
use Rattle.b67_flat.specs.Spans.{gap_before}
use Rattle.b67_flat.proofs.spans.widest_from.Given as goal

abbrev pub invariant-widening : goal.invariant-widening
invariant-widening l =
    (l.fn.first ≤ l.at) × (l.at ≤ vec_len l.fn.spans) × ((k : ℕ) → l.fn.first ≤ k → k < l.at → gap_before 0 l.fn.spans.items k ≤ l.widest)

abbrev pub decreases-widening : goal.decreases-widening
decreases-widening l = vec_len l.fn.spans - l.at
