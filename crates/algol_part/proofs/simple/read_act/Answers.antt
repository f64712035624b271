use Rattle.std.proofs.Common.{[], refl, ap}
use Rattle.algol_expr.proofs.Chain.{past, via, making, rest_of}
use Rattle.algol_expr.proofs.Arms.{started}
use Rattle.b67_list.proofs.Answered.{if_err_left}
use Rattle.algol_part.proofs.Chains.{failing, brought}
use Rattle.algol_part.specs.Phrases.{acted}
use Rattle.algol_tree.specs.Due as due
use Rattle.algol_part.proofs.simple.read_act.Goals as goal

pub returns-in_err-rest-clause-refused : goal.returns-in_err-rest-clause-refused
returns-in_err-rest-clause-refused c = if_err_left _ _ _ c.from_residual.ensures.1 (failing (started (acted c.args.act) [] _) c.in_err-rest.ensures.fails)

pub returns-in_err-event-clause-refused : goal.returns-in_err-event-clause-refused
returns-in_err-event-clause-refused c = if_err_left _ _ _ c.from_residual-in_err-event.ensures.1 (failing (past (started (acted c.args.act) [] _) c.in_ok-rest.ensures.passes) c.in_err-event.ensures.refused)

pub returns-in_err-rest-2-clause-refused : goal.returns-in_err-rest-2-clause-refused
returns-in_err-rest-2-clause-refused c = if_err_left _ _ _ c.from_residual-in_err-rest-2.ensures.1 (failing (via (past (started (acted c.args.act) [] _) c.in_ok-rest.ensures.passes) c.in_ok-event.ensures.found) c.in_err-rest-2.ensures.fails)

pub returns-clause-found : goal.returns-clause-found
returns-clause-found c = brought (making (past (via (past (started (acted c.args.act) [] _) c.in_ok-rest.ensures.passes) c.in_ok-event.ensures.found) c.in_ok-rest-2.ensures.passes) (λ vs. refl)) (ap due.stmt c.acting.ensures) (rest_of (rest_of (c.in_ok-rest.ensures.passes.behind) (c.in_ok-event.ensures.found.behind)) (c.in_ok-rest-2.ensures.passes.behind))
