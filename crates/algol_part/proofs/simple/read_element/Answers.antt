use Rattle.std.proofs.Common.{[], refl, ap}
use Rattle.algol_expr.proofs.Chain.{past, via, making, rest_of}
use Rattle.algol_expr.proofs.Arms.{started}
use Rattle.b67_list.proofs.Answered.{if_err_left}
use Rattle.algol_part.proofs.Chains.{bringing, refusing, failing, refusing_all, brought}
use Rattle.algol_part.specs.Phrases.{element_in}
use Rattle.algol_tree.specs.Due as due
use Rattle.algol_part.proofs.simple.read_element.Goals as goal

pub returns-in_err-subs-clause-refused : goal.returns-in_err-subs-clause-refused
returns-in_err-subs-clause-refused c = if_err_left _ _ _ c.from_residual.ensures.1 (refusing_all _ (started (element_in c.args.name) [] _) c.in_err-subs.ensures.refused)

pub returns-in_err-rest-clause-refused : goal.returns-in_err-rest-clause-refused
returns-in_err-rest-clause-refused c = if_err_left _ _ _ c.from_residual-in_err-rest.ensures.1 (failing (bringing (started (element_in c.args.name) [] _) c.in_ok-subs.ensures.found) c.in_err-rest.ensures.fails)

pub returns-in_err-value-clause-refused : goal.returns-in_err-value-clause-refused
returns-in_err-value-clause-refused c = if_err_left _ _ _ c.from_residual-in_err-value.ensures.1 (refusing (past (bringing (started (element_in c.args.name) [] _) c.in_ok-subs.ensures.found) c.in_ok-rest.ensures.passes) c.in_err-value.ensures.fails)

pub returns-clause-found : goal.returns-clause-found
returns-clause-found c = brought (making (via (past (bringing (started (element_in c.args.name) [] _) c.in_ok-subs.ensures.found) c.in_ok-rest.ensures.passes) c.in_ok-value.ensures.found) (λ vs. refl)) (ap due.stmt c.assignment.ensures) (rest_of (rest_of (c.in_ok-subs.ensures.found.behind) (c.in_ok-rest.ensures.passes.behind)) (c.in_ok-value.ensures.found.behind))
