use Rattle.std.proofs.Common.{drop}
use Rattle.algol_scope.specs.Noting.{at_events}
use Rattle.algol_scope.proofs.Walking.{Follows}
use Rattle.algol_scope.proofs.findings.Findings.events.Given as goal

abbrev pub invariant-events : goal.invariant-events
invariant-events l = Follows l.around l.seen l.fn.self l.self (at_events l.fn.events) (at_events (drop l.event-index l.event-items))
