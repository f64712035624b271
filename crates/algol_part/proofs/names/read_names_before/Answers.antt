use Rattle.std.proofs.Common.{[], refl}
use Rattle.algol_expr.proofs.Chain.{past, rest_of}
use Rattle.algol_expr.proofs.Arms.{started}
use Rattle.b67_list.proofs.Answered.{if_err_left}
use Rattle.algol_part.proofs.Chains.{bringing, failing, refusing_all, brought}
use Rattle.algol_part.specs.Phrases.{names_before}
use Rattle.algol_part.proofs.names.read_names_before.Goals as goal

pub returns-in_err-names-clause-refused : goal.returns-in_err-names-clause-refused
returns-in_err-names-clause-refused c = if_err_left _ _ _ c.from_residual.ensures.1 (refusing_all _ (started (names_before c.args.symbol) [] _) c.in_err-names.ensures.refused)

pub returns-in_err-rest-clause-refused : goal.returns-in_err-rest-clause-refused
returns-in_err-rest-clause-refused c = if_err_left _ _ _ c.from_residual-in_err-rest.ensures.1 (failing (bringing (started (names_before c.args.symbol) [] _) c.in_ok-names.ensures.found) c.in_err-rest.ensures.fails)

pub returns-clause-found : goal.returns-clause-found
returns-clause-found c = brought (past (bringing (started (names_before c.args.symbol) [] _) c.in_ok-names.ensures.found) c.in_ok-rest.ensures.passes) refl (rest_of (c.in_ok-names.ensures.found.behind) (c.in_ok-rest.ensures.passes.behind))
