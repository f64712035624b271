use Rattle.std.proofs.Common.{◌≡◌, ◌≢◌, ℕ, ◌-◌, ◌/◌, ◌%◌, ◌≤◌, get_or, length}
use Rattle.std.specs.Vec.{vec_len}
use Rattle.b67_flat.specs.Spans.{gap_before}
use Rattle.b67_flat.proofs.spans.renew.Given as goal

abbrev pub invariant-raising : goal.invariant-raising
invariant-raising l =
    ((k : ℕ) → (l.next ≤ k → k % 64 ≢ l.next % 64) → gap_before 0 l.fn.spans.items k ≤ get_or l.widest (k / 64) 0)
    × (length l.widest ≡ length l.fn.widest)

abbrev pub decreases-raising : goal.decreases-raising
decreases-raising l = vec_len l.fn.spans - l.next
