use Rattle.std.proofs.Common.{sym, ◌∙◌}
use Rattle.b67_list.proofs.Answered.{if_err_left}
use Rattle.algol_expr.proofs.Chain.{no_memory}
use Rattle.algol_expr.proofs.Events.{events_begin, events_go_on, events_fail, events_fail_closing, events_done}
use Rattle.algol_expr.proofs.event.read_events.Goals as goal

pub events-init : goal.events-init
events-init c = events_begin _ _ c.new-events.ensures.items c.requires.ended

pub events-preserved : goal.events-preserved
events-preserved c = events_go_on _ _ _ _ _ _ _ _ c.in_ok-push.ensures.items c.events.invariant c.in_ok-event.ensures.found c.first_of.ensures (sym c.is_symbol.ensures ∙ c.if-is_symbol.true)

pub returns-in_err-event-clause-refused : goal.returns-in_err-event-clause-refused
returns-in_err-event-clause-refused c = if_err_left _ _ _ c.from_residual.ensures.1 (events_fail _ _ _ _ _ c.events.invariant c.in_err-event.ensures.refused)

pub returns-in_err-rest-clause-refused : goal.returns-in_err-rest-clause-refused
returns-in_err-rest-clause-refused c = if_err_left _ _ _ c.from_residual-in_err-rest.ensures.1
    (events_fail_closing _ _ _ _ _ _ _ _ _ _ c.in_ok-push.ensures.items c.events.invariant c.in_ok-event.ensures.found c.first_of.ensures (sym c.is_symbol.ensures ∙ c.if-is_symbol.false) c.in_err-rest.ensures.fails)

pub returns-else-is_symbol-clause-found : goal.returns-else-is_symbol-clause-found
returns-else-is_symbol-clause-found c = events_done _ _ _ _ _ _ _ _ _ (c.of.ensures ∙ c.in_ok-push.ensures.items) c.events.invariant c.in_ok-event.ensures.found c.first_of.ensures (sym c.is_symbol.ensures ∙ c.if-is_symbol.false) c.in_ok-rest.ensures.passes
