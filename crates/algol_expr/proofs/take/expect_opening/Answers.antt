use Rattle.std.proofs.Common.{sym, ◌∙◌}
use Rattle.b67_list.proofs.Answered.{if_err_left}
use Rattle.algol_expr.proofs.Taken.{opening_passes, opening_fails, opening_too_deep}
use Rattle.algol_expr.proofs.take.expect_opening.Goals as goal

pub returns-in_ok-_inner-clause-passes : goal.returns-in_ok-_inner-clause-passes
returns-in_ok-_inner-clause-passes c = opening_passes _ _ _ _ _ c.first_of.ensures c.requires.ended (sym c.is_symbol.ensures ∙ c.if-is_symbol.true) c.in_ok-_inner.ensures.opens.0

pub returns-in_err-_inner-clause-fails : goal.returns-in_err-_inner-clause-fails
returns-in_err-_inner-clause-fails c = if_err_left _ _ _ c.from_residual.ensures.1 (opening_too_deep _ _ _ _ _ _ _ c.first_of.ensures (sym c.is_symbol.ensures ∙ c.if-is_symbol.true)
    c.in_err-_inner.ensures.deep.0 c.in_err-_inner.ensures.deep.1 c.in_err-_inner.ensures.deep.2)

pub returns-else-is_symbol-clause-fails : goal.returns-else-is_symbol-clause-fails
returns-else-is_symbol-clause-fails c = opening_fails _ _ _ _ _ _ _ c.first_of.ensures (sym c.is_symbol.ensures ∙ c.if-is_symbol.false) c.refused.ensures.left c.refused.ensures.refusal
