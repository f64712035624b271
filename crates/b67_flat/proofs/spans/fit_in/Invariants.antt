use Rattle.std.proofs.Common.{ℕ, ◌-◌, ◌<◌, ◌≤◌}
use Rattle.std.specs.Vec.{vec_len}
use Rattle.b67_flat.specs.Spans.{gap_before}
use Rattle.b67_flat.proofs.spans.fit_in.Given as goal

abbrev pub invariant-fitting : goal.invariant-fitting
invariant-fitting l =
    (l.fn.first ≤ l.at) × (l.at ≤ vec_len l.fn.spans) × ((k : ℕ) → l.fn.first ≤ k → k < l.at → gap_before 0 l.fn.spans.items k < l.fn.count)

abbrev pub decreases-fitting : goal.decreases-fitting
decreases-fitting l = vec_len l.fn.spans - l.at
