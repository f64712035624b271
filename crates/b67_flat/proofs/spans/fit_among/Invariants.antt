use Rattle.std.proofs.Common.{◌≡◌, ℕ, ◌-◌, ◌*◌, ◌<◌, ◌≤◌, length}
use Rattle.b67_flat.specs.Spans.{gap_before}
use Rattle.b67_flat.specs.Widest.{AreWidest}
use Rattle.b67_flat.proofs.spans.fit_among.Given as goal

abbrev pub invariant-chunks : goal.invariant-chunks
invariant-chunks l =
    (l.chunk ≤ length l.widest) × AreWidest l.fn.spans.items l.widest × (length l.widest ≡ length l.fn.widest)
    × ((k : ℕ) → k < l.chunk * 64 → gap_before 0 l.fn.spans.items k < l.fn.count)

abbrev pub decreases-chunks : goal.decreases-chunks
decreases-chunks l = length l.fn.widest - l.chunk
