use Rattle.std.proofs.Common.{◌≡◌, ◌≤◌, not, drop, vec_capacity}
use Rattle.std.specs.Prelude.{filter}
use Rattle.b67_events.specs.Kept.{is_left, AreInOrder, StandOnce}
use Rattle.b67_events.proofs.queues.leave_all.Given as goal

abbrev pub invariant-leaving : goal.invariant-leaving
invariant-leaving l = record {
  order : AreInOrder l.waiting.items;
  once : StandOnce l.waiting.items;
  kept : filter (λ w. not (is_left l.process (drop l.index l.places) w)) l.waiting.items
      ≡ filter (λ w. not (is_left l.process l.places w)) l.initial.waiting.items;
  capacity : vec_capacity l.initial.waiting ≤ vec_capacity l.waiting;
}
