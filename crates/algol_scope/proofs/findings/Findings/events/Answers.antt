use Rattle.std.proofs.lemmas.List.{drop_all}
use Rattle.algol_scope.specs.Noting.{at_events}
use Rattle.algol_scope.proofs.Walking.{follows_event, events_end}
use Rattle.algol_scope.proofs.findings.Findings.events.Goals as goal

pub events-preserved : goal.events-preserved
events-preserved c =
    follows_event c.args.around.now c.args.seen c.args.self.now c.events.self c.name.new.self (at_events c.args.events.now)
    c.deref-event-items.result.now c.events.event-index c.event-item.result c.events-test.true c.event-item.is c.events.invariant
    c.in_ok-name.ensures.walks

pub returns : goal.returns
returns c =
    events_end c.args.around.now c.args.seen c.args.self.now c.events.self (at_events c.args.events.now) _
    (drop_all c.events.event-index c.deref-event-items.result.now c.events-test.false) c.events.invariant
