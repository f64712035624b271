use Rattle.std.proofs.Common.{length}
use Rattle.algol_expr.proofs.Events.{EventsGoOn}
use Rattle.algol_expr.proofs.event.read_events.Given as goal

abbrev pub invariant-events : goal.invariant-events
invariant-events l = EventsGoOn l.tokens l.events.items l.rest

abbrev pub decreases-events : goal.decreases-events
decreases-events l = length l.rest
