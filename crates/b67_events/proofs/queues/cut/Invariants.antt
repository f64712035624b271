use Rattle.std.proofs.Common.{◌≡◌, ◌≤◌, ◌++◌, take, drop, vec_capacity}
use Rattle.b67_events.specs.Kept.{below}
use Rattle.b67_events.proofs.queues.cut.Given as goal

abbrev pub invariant-cutting : goal.invariant-cutting
invariant-cutting l = record {
  items : l.waiting.items ≡ take l.end l.initial.waiting.items ++ drop (below l.to l.initial.waiting.items) l.initial.waiting.items;
  first : below l.from l.initial.waiting.items ≤ l.end;
  last : l.end ≤ below l.to l.initial.waiting.items;
  capacity : vec_capacity l.initial.waiting ≤ vec_capacity l.waiting;
}

abbrev pub decreases-cutting : goal.decreases-cutting
decreases-cutting l = l.end
