use Rattle.std.proofs.Common.{ap, refl, ◌∙◌}
use Rattle.algol_tree.specs.Due.{one}
use Rattle.b67_list.proofs.Answered.{if_err_left}
use Rattle.algol_expr.proofs.Chain.{no_memory, failing, via, past, making, done, rest_of, rest_cons}
use Rattle.algol_expr.proofs.Starts.{asked_starts, asks_one}
use Rattle.algol_expr.proofs.event.read_asked.Goals as goal

pub returns-in_err-rest-clause-refused : goal.returns-in_err-rest-clause-refused
returns-in_err-rest-clause-refused c = if_err_left _ _ _ c.from_residual.ensures.1 (failing (asked_starts _ _ _ _ c.requires.word) c.in_err-rest.ensures.fails)

pub returns-in_err-event-clause-refused : goal.returns-in_err-event-clause-refused
returns-in_err-event-clause-refused c = if_err_left _ _ _ c.from_residual-in_err-event.ensures.1 (failing (past (asked_starts _ _ _ _ c.requires.word) c.in_ok-rest.ensures.passes) c.in_err-event.ensures.refused)

pub returns-in_err-rest-2-clause-refused : goal.returns-in_err-rest-2-clause-refused
returns-in_err-rest-2-clause-refused c = if_err_left _ _ _ c.from_residual-in_err-rest-2.ensures.1
    (failing (via (past (asked_starts _ _ _ _ c.requires.word) c.in_ok-rest.ensures.passes) c.in_ok-event.ensures.found) c.in_err-rest-2.ensures.fails)

pub returns-in_err-boxed-clause-refused : goal.returns-in_err-boxed-clause-refused
returns-in_err-boxed-clause-refused c = no_memory _ _ _ _ _ c.from_residual-in_err-boxed.ensures.1 c.in_err-boxed.ensures.memory

pub returns-clause-found : goal.returns-clause-found
returns-clause-found c = done
    (making (past (via (past (asked_starts _ _ _ _ c.requires.word) c.in_ok-rest.ensures.passes) c.in_ok-event.ensures.found) c.in_ok-rest-2.ensures.passes) (λ vs. refl))
    (ap one (c.in_ok-boxed.ensures.built ∙ c.asked.ensures)) (rest_cons (rest_of c.in_ok-rest.ensures.passes.behind (rest_of c.in_ok-event.ensures.found.behind c.in_ok-rest-2.ensures.passes.behind)))

pub asked-requires : goal.asked-requires
asked-requires c = record { of_one = asks_one _ _ c.requires.word }
