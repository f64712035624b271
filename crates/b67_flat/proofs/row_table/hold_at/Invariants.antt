use Rattle.std.proofs.Common.{◌≡◌, ◌+◌, ◌-◌, ◌≤◌, ◌++◌, replicate, None}
use Rattle.std.specs.Vec.{vec_len, vec_capacity}
use Rattle.b67_flat.proofs.row_table.hold_at.Given as goal

abbrev pub invariant-filling : goal.invariant-filling
invariant-filling l =
    (l.rows.items ≡ l.initial.rows.items ++ replicate (vec_len l.rows - vec_len l.initial.rows) None)
    × (vec_len l.initial.rows ≤ vec_len l.rows) × (vec_len l.rows ≤ l.fn.number) × (l.fn.number + 1 ≤ vec_capacity l.rows)

abbrev pub decreases-filling : goal.decreases-filling
decreases-filling l = l.fn.number - vec_len l.rows
