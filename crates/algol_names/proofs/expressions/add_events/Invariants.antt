use Rattle.std.proofs.Common.{◌≡◌, ◌++◌, drop, length}
use Rattle.algol_names.specs.Found.{in_events}
use Rattle.algol_names.proofs.expressions.add_events.Given as goal

abbrev pub invariant-events : goal.invariant-events
invariant-events l = l.names.items ++ in_events (drop l.event-index l.events) (length l.outer) ≡ l.fn.names.items ++ in_events l.fn.events (length l.outer)
