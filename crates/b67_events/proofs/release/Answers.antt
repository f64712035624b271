use Rattle.b67_events.proofs.Order.{order_filter}
use Rattle.b67_events.proofs.Stood.{once_filter}
use Rattle.b67_events.proofs.release.Goals as goal

pub withdraw-requires-clause-order : goal.withdraw-requires-clause-order
withdraw-requires-clause-order c = rw c.dismiss.ensures.kept (order_filter _ c.args.waiting.now.items c.requires.order)

pub withdraw-requires-clause-once : goal.withdraw-requires-clause-once
withdraw-requires-clause-once c = rw c.dismiss.ensures.kept (once_filter _ c.args.waiting.now.items c.requires.once)
