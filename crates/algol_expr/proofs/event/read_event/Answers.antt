use Rattle.algol_tree.specs.Due.{event_named}
use Rattle.algol_expr.proofs.Chain.{completes_to, fails_as, first_shorter}
use Rattle.algol_expr.proofs.Starts.{event_starts, event_fails}
use Rattle.algol_expr.proofs.event.read_event.Goals as goal

pub returns-in_ok-name-in-Some-clause-found : goal.returns-in_ok-name-in-Some-clause-found
returns-in_ok-name-in-Some-clause-found c = completes_to c.read_behind_event.result (λ x. event_named x.0) (λ x. x.1.now)
    (event_starts _ _ _ _ _ c.first_of.ensures c.in-Some.ensures.some c.in_ok-name-in-Some.ensures.built) (first_shorter c.first_of.ensures) c.read_behind_event.ensures.found

pub returns-in_ok-name-in-Some-clause-refused : goal.returns-in_ok-name-in-Some-clause-refused
returns-in_ok-name-in-Some-clause-refused c = fails_as c.read_behind_event.result
    (event_starts _ _ _ _ _ c.first_of.ensures c.in-Some.ensures.some c.in_ok-name-in-Some.ensures.built) c.read_behind_event.ensures.refused

pub returns-in-None-clause-refused : goal.returns-in-None-clause-refused
returns-in-None-clause-refused c = event_fails _ _ _ _ _ c.first_of.ensures c.in-None.ensures.none c.refused.ensures.left c.refused.ensures.refusal
