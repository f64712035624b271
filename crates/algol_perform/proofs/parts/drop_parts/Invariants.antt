use Rattle.std.proofs.Common.{◌≡◌, drop}
use Rattle.algol_perform.proofs.parts.drop_parts.Given as goal

abbrev pub invariant-dropping : goal.invariant-dropping
invariant-dropping l =
    record l.q { todo = drop l.further l.q.todo } ≡ record l.initial.q { todo = drop l.left l.initial.q.todo }

abbrev pub decreases-dropping : goal.decreases-dropping
decreases-dropping l = l.further
