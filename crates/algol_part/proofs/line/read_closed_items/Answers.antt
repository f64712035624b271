use Rattle.std.proofs.Common.{[], refl}
use Rattle.algol_expr.proofs.Chain.{past, completing}
use Rattle.algol_expr.proofs.Arms.{started}
use Rattle.b67_list.proofs.Answered.{if_err_left}
use Rattle.algol_part.proofs.Chains.{refusing, failing, brought, rest_within}
use Rattle.algol_part.specs.Phrases.{closed_items}
use Rattle.algol_part.proofs.line.read_closed_items.Goals as goal

pub returns-in_err-items-clause-refused : goal.returns-in_err-items-clause-refused
returns-in_err-items-clause-refused c = if_err_left _ _ _ c.from_residual.ensures.1 (refusing (started closed_items [] _) c.in_err-items.ensures.refused)

pub returns-in_err-rest-clause-refused : goal.returns-in_err-rest-clause-refused
returns-in_err-rest-clause-refused c = if_err_left _ _ _ c.from_residual-in_err-rest.ensures.1 (failing (completing (started closed_items [] _) c.in_ok-items.ensures.found) c.in_err-rest.ensures.fails)

pub returns-clause-found : goal.returns-clause-found
returns-clause-found c = brought (past (completing (started closed_items [] _) c.in_ok-items.ensures.found) c.in_ok-rest.ensures.passes) refl (rest_within c.in_ok-items.ensures.found.no_longer c.in_ok-rest.ensures.passes.behind)
