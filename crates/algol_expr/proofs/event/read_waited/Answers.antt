use Rattle.std.proofs.Common.{ap, refl, ◌∙◌}
use Rattle.algol_tree.specs.Due.{one}
use Rattle.b67_list.proofs.Answered.{if_err_left}
use Rattle.algol_expr.proofs.Chain.{no_memory, failing, making, done, rest_of, rest_cons}
use Rattle.algol_expr.proofs.Starts.{waited_starts}
use Rattle.algol_expr.proofs.Events.{events_through, events_failing, wait_opens}
use Rattle.algol_expr.proofs.event.read_waited.Goals as goal

pub returns-in_err-rest-clause-refused : goal.returns-in_err-rest-clause-refused
returns-in_err-rest-clause-refused c = if_err_left _ _ _ c.from_residual.ensures.1 (failing (waited_starts _ _ _ c.requires.word) c.in_err-rest.ensures.fails)

pub returns-in_err-events-clause-refused : goal.returns-in_err-events-clause-refused
returns-in_err-events-clause-refused c = if_err_left _ _ _ c.from_residual-in_err-events.ensures.1
    (events_failing (wait_opens _ _ _ _ c.requires.word c.in_ok-rest.ensures.passes) c.in_err-events.ensures.refused)

pub returns-in_err-boxed-clause-refused : goal.returns-in_err-boxed-clause-refused
returns-in_err-boxed-clause-refused c = no_memory _ _ _ _ _ c.from_residual-in_err-boxed.ensures.1 c.in_err-boxed.ensures.memory

pub returns-clause-found : goal.returns-clause-found
returns-clause-found c = done
    (making (events_through (wait_opens _ _ _ _ c.requires.word c.in_ok-rest.ensures.passes) c.in_ok-events.ensures.found) (λ vs. refl))
    (ap one (c.in_ok-boxed.ensures.built ∙ c.waited.ensures)) (rest_cons (rest_of c.in_ok-rest.ensures.passes.behind c.in_ok-events.ensures.found.behind))
