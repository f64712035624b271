use Rattle.std.proofs.Common.{ℕ, ◌-◌, ◌<◌, ◌≤◌, get_or}
use Rattle.std.specs.Vec.{vec_len}
use Rattle.b67_flat.proofs.widest.Widest.next_wide.Given as goal

abbrev pub invariant-passing : goal.invariant-passing
invariant-passing l =
    (l.fn.from ≤ l.chunk) × (l.chunk ≤ vec_len l.self-inside.chunks) × ((k : ℕ) → l.fn.from ≤ k → k < l.chunk → get_or l.self-inside.chunks.items k 0 < l.fn.width)

abbrev pub decreases-passing : goal.decreases-passing
decreases-passing l = vec_len l.self-inside.chunks - l.chunk
