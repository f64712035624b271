use Rattle.std.proofs.Common.{◌≡◌, ◌+◌, ◌≤◌, ◌++◌, drop, length, vec_capacity}
use Rattle.b67_events.specs.Kept.{waiters_listed, rank_at, below}
use Rattle.b67_events.specs.declared.Queue.TheVariants.{Waiters}
use Rattle.b67_events.proofs.queues.gather.Given as goal

abbrev pub invariant-waiting : goal.invariant-waiting
invariant-waiting l = record {
  from : below (rank_at Waiters l.at) l.waiting.items ≤ l.index;
  woken : l.woken.items ++ waiters_listed Waiters l.at (drop l.index l.waiting.items) ≡ l.initial.woken.items ++ waiters_listed Waiters l.at l.waiting.items;
  space : length l.woken.items + length (waiters_listed Waiters l.at (drop l.index l.waiting.items)) ≤ vec_capacity l.woken;
  room : vec_capacity l.initial.woken ≤ vec_capacity l.woken;
}
