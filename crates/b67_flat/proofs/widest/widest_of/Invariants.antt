use Rattle.std.proofs.Common.{ℕ, ◌-◌, ◌<◌, ◌≤◌, get_or}
use Rattle.std.specs.Vec.{vec_len}
use Rattle.b67_flat.proofs.widest.widest_of.Given as goal

abbrev pub invariant-widening : goal.invariant-widening
invariant-widening l =
    (l.fn.first ≤ l.chunk) × (l.chunk ≤ vec_len l.fn.chunks) × ((k : ℕ) → l.fn.first ≤ k → k < l.chunk → get_or l.fn.chunks.items k 0 ≤ l.widest)

abbrev pub decreases-widening : goal.decreases-widening
decreases-widening l = vec_len l.fn.chunks - l.chunk
