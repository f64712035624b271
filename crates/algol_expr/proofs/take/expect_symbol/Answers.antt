use Rattle.std.proofs.Common.{sym, ◌∙◌}
use Rattle.algol_expr.proofs.Taken.{symbol_fails}
use Rattle.algol_expr.proofs.take.expect_symbol.Goals as goal

pub returns-else-is_symbol-clause-fails : goal.returns-else-is_symbol-clause-fails
returns-else-is_symbol-clause-fails c = symbol_fails _ _ _ _ _ _ c.first_of.ensures (sym c.is_symbol.ensures ∙ c.if-is_symbol.false) c.refused.ensures.left c.refused.ensures.refusal
