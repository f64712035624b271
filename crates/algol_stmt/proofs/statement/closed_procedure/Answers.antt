use Rattle.std.proofs.Common.{[], ◌∷◌}
use Rattle.algol_part.proofs.Chains.{failing}
use Rattle.algol_tree.specs.declared.token.Symbol.TheVariants as symbols
use Rattle.algol_tree.specs.Due as due
use Rattle.algol_expr.proofs.Arms.{started}
use Rattle.b67_list.proofs.Answered.{if_err_left}
use Rattle.algol_stmt.proofs.statement.closed_procedure.Goals as goal

pub returns-in_err-rest-clause-refused : goal.returns-in_err-rest-clause-refused
returns-in_err-rest-clause-refused c = if_err_left _ _ _ c.from_residual.ensures.1 (failing (started (due.symbol symbols.Semicolon ∷ []) [] _) c.in_err-rest.ensures.fails)
