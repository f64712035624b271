use Rattle.std.proofs.Common.{[], refl}
use Rattle.algol_expr.proofs.Chain.{past, via, rest_of}
use Rattle.algol_expr.proofs.Arms.{started}
use Rattle.b67_list.proofs.Answered.{if_err_left}
use Rattle.algol_part.proofs.Chains.{refusing, failing, brought}
use Rattle.algol_part.specs.Phrases.{whole_behind}
use Rattle.algol_tree.specs.declared.token.Reserved.TheVariants as reserved
use Rattle.algol_part.proofs.simple.read_until.Goals as goal

pub returns-in_err-rest-clause-refused : goal.returns-in_err-rest-clause-refused
returns-in_err-rest-clause-refused c = if_err_left _ _ _ c.from_residual.ensures.1 (failing (started (whole_behind reserved.Until) [] _) c.in_err-rest.ensures.fails)

pub returns-in_err-expr-clause-refused : goal.returns-in_err-expr-clause-refused
returns-in_err-expr-clause-refused c = if_err_left _ _ _ c.from_residual-in_err-expr.ensures.1 (refusing (past (started (whole_behind reserved.Until) [] _) c.in_ok-rest.ensures.passes) c.in_err-expr.ensures.fails)

pub returns-clause-found : goal.returns-clause-found
returns-clause-found c = brought (via (past (started (whole_behind reserved.Until) [] _) c.in_ok-rest.ensures.passes) c.in_ok-expr.ensures.found) refl (rest_of c.in_ok-rest.ensures.passes.behind c.in_ok-expr.ensures.found.behind)
