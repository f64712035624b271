use Rattle.std.proofs.Common.{◌≡◌, ◌≤◌, ◌++◌, take, drop}
use Rattle.b67_events.specs.Kept.{is_same, without_first, rank_at, below}
use Rattle.b67_events.specs.declared.Queue.TheVariants.{Waiters}
use Rattle.b67_events.proofs.queues.leave.Given as goal

abbrev pub invariant-leaving : goal.invariant-leaving
invariant-leaving l = record {
  same : l.waiting.items ≡ l.initial.waiting.items;
  from : below (rank_at Waiters l.at) l.waiting.items ≤ l.index;
  rest : without_first (is_same (record { process = l.process; place = l.at; queue = Waiters })) l.waiting.items
      ≡ take l.index l.waiting.items ++ without_first (is_same (record { process = l.process; place = l.at; queue = Waiters })) (drop l.index l.waiting.items);
}
