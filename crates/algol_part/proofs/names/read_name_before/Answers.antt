use Rattle.std.proofs.Common.{[], refl}
use Rattle.algol_expr.proofs.Chain.{past, via, rest_of}
use Rattle.algol_expr.proofs.Arms.{started}
use Rattle.b67_list.proofs.Answered.{if_err_left}
use Rattle.algol_part.proofs.Chains.{refusing, failing, brought}
use Rattle.algol_part.specs.Phrases.{name_before}
use Rattle.algol_part.proofs.names.read_name_before.Goals as goal

pub returns-in_err-name-clause-refused : goal.returns-in_err-name-clause-refused
returns-in_err-name-clause-refused c = if_err_left _ _ _ c.from_residual.ensures.1 (refusing (started (name_before c.args.symbol) [] _) c.in_err-name.ensures.refused)

pub returns-in_err-rest-clause-refused : goal.returns-in_err-rest-clause-refused
returns-in_err-rest-clause-refused c = if_err_left _ _ _ c.from_residual-in_err-rest.ensures.1 (failing (via (started (name_before c.args.symbol) [] _) c.in_ok-name.ensures.found) c.in_err-rest.ensures.fails)

pub returns-clause-found : goal.returns-clause-found
returns-clause-found c = brought (past (via (started (name_before c.args.symbol) [] _) c.in_ok-name.ensures.found) c.in_ok-rest.ensures.passes) (refl) (rest_of (c.in_ok-name.ensures.found.behind) (c.in_ok-rest.ensures.passes.behind))
