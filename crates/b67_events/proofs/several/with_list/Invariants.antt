use Rattle.std.proofs.Common.{◌≡◌, ◌+◌, ◌-◌, ◌≤◌, length, vec_capacity}
use Rattle.b67_events.specs.Events.{with_list}
use Rattle.b67_events.proofs.several.with_list.Given as goal

abbrev pub invariant-padding : goal.invariant-padding
invariant-padding l = record {
  lists : with_list l.lists.items l.process l.at ≡ with_list l.initial.lists.items l.process l.at;
  capacity : vec_capacity l.initial.lists ≤ vec_capacity l.lists;
}

abbrev pub decreases-padding : goal.decreases-padding
decreases-padding l = l.index + 1 - length l.lists.items
