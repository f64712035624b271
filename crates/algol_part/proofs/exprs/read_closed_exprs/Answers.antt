use Rattle.std.proofs.Common.{[], refl}
use Rattle.algol_expr.proofs.Chain.{past, rest_of}
use Rattle.algol_expr.proofs.Arms.{started}
use Rattle.b67_list.proofs.Answered.{if_err_left}
use Rattle.algol_part.proofs.Chains.{bringing, failing, refusing_all, brought}
use Rattle.algol_part.specs.Phrases.{closed_wholes}
use Rattle.algol_part.proofs.exprs.read_closed_exprs.Goals as goal

pub returns-in_err-exprs-clause-refused : goal.returns-in_err-exprs-clause-refused
returns-in_err-exprs-clause-refused c = if_err_left _ _ _ c.from_residual.ensures.1 (refusing_all _ (started (closed_wholes c.args.closing) [] _) c.in_err-exprs.ensures.refused)

pub returns-in_err-rest-clause-refused : goal.returns-in_err-rest-clause-refused
returns-in_err-rest-clause-refused c = if_err_left _ _ _ c.from_residual-in_err-rest.ensures.1 (failing (bringing (started (closed_wholes c.args.closing) [] _) c.in_ok-exprs.ensures.found) c.in_err-rest.ensures.fails)

pub returns-clause-found : goal.returns-clause-found
returns-clause-found c = brought (past (bringing (started (closed_wholes c.args.closing) [] _) c.in_ok-exprs.ensures.found) c.in_ok-rest.ensures.passes) refl (rest_of (c.in_ok-exprs.ensures.found.behind) (c.in_ok-rest.ensures.passes.behind))
