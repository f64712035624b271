use Rattle.std.proofs.Common.{◌≡◌, ◌≤◌, drop, vec_capacity}
use Rattle.b67_events.specs.Events.{unlisted}
use Rattle.b67_events.proofs.several.unlist_all.Given as goal

abbrev pub invariant-unlisting : goal.invariant-unlisting
invariant-unlisting l = record {
  lists : unlisted (drop l.index l.processes.items) l.lists.items ≡ unlisted l.processes.items l.initial.lists.items;
  capacity : vec_capacity l.initial.lists ≤ vec_capacity l.lists;
}
