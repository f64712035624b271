use Rattle.std.proofs.Common.{◌≡◌, take}
use Rattle.b67_events.proofs.again.same_queues.Given as goal

abbrev pub invariant-queues : goal.invariant-queues
invariant-queues l = take l.index l.ours.items ≡ take l.index l.theirs.items
