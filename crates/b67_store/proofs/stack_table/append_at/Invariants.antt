use Rattle.std.proofs.Common.{◌≡◌, ◌+◌, ◌-◌, ◌≤◌, ◌++◌, replicate, None}
use Rattle.std.specs.Vec.{vec_len, vec_capacity}
use Rattle.b67_store.proofs.stack_table.append_at.Given as goal

abbrev pub invariant-filling : goal.invariant-filling
invariant-filling l =
    (l.stacks.items ≡ l.initial.stacks.items ++ replicate (vec_len l.stacks - vec_len l.initial.stacks) None)
    × (vec_len l.initial.stacks ≤ vec_len l.stacks) × (vec_len l.stacks ≤ l.fn.number) × (l.fn.number + 1 ≤ vec_capacity l.stacks)

abbrev pub decreases-filling : goal.decreases-filling
decreases-filling l = l.fn.number - vec_len l.stacks
