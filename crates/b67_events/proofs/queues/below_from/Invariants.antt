use Rattle.std.proofs.Common.{◌≡◌, ◌+◌, drop}
use Rattle.b67_events.specs.Kept.{below}
use Rattle.b67_events.proofs.queues.below_from.Given as goal

abbrev pub invariant-passing : goal.invariant-passing
invariant-passing l = l.index + below l.rank (drop l.index l.waiting.items) ≡ below l.rank l.waiting.items
