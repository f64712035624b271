use Rattle.std.proofs.Common.{◌≡◌, ◌≤◌, not, drop, vec_capacity}
use Rattle.std.specs.Prelude.{filter}
use Rattle.b67_events.specs.Kept.{is_named, AreInOrder, StandOnce}
use Rattle.b67_events.proofs.queues.withdraw.Given as goal

abbrev pub invariant-withdrawing : goal.invariant-withdrawing
invariant-withdrawing l = record {
  order : AreInOrder l.waiting.items;
  once : StandOnce l.waiting.items;
  kept : filter (λ w. not (is_named (drop l.index l.processes.items) l.lists.items w)) l.waiting.items
      ≡ filter (λ w. not (is_named l.processes.items l.lists.items w)) l.initial.waiting.items;
  capacity : vec_capacity l.initial.waiting ≤ vec_capacity l.waiting;
}
