use Rattle.std.proofs.Common.{◌≡◌, ◌+◌, ◌≤◌, [], take, drop, length, vec_capacity}
use Rattle.b67_events.specs.Kept.{joiners, AreInOrder, stand_all}
use Rattle.b67_events.proofs.queues.join_all.Given as goal

abbrev pub invariant-joining : goal.invariant-joining
invariant-joining l = record {
  order : AreInOrder l.waiting.items;
  waiting : stand_all (joiners l.process (take l.index l.at) (drop l.index l.at)) l.waiting.items ≡ stand_all (joiners l.process [] l.at) l.initial.waiting.items;
  room : length l.waiting.items + length (drop l.index l.at) ≤ vec_capacity l.waiting;
  capacity : vec_capacity l.initial.waiting ≤ vec_capacity l.waiting;
}
