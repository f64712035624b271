use Rattle.std.proofs.Common.{ℕ, ◌-◌, ◌<◌, ◌≤◌, get_or}
use Rattle.std.specs.Vec.{vec_len}
use Rattle.b67_flat.specs.declared.Span.{Span}
use Rattle.b67_flat.proofs.spans.Spans.below.Given as goal

abbrev pub invariant-halving : goal.invariant-halving
invariant-halving l =
    (l.low ≤ l.high) × (l.high ≤ vec_len l.self-inside.spans)
    × ((k : ℕ) (d : Span) → k < l.low → (get_or l.self-inside.spans.items k d).place < l.fn.place)
    × ((k : ℕ) (d : Span) → l.high ≤ k → k < vec_len l.self-inside.spans → l.fn.place ≤ (get_or l.self-inside.spans.items k d).place)

abbrev pub decreases-halving : goal.decreases-halving
decreases-halving l = l.high - l.low
