use Rattle.std.proofs.Common.{sym, ◌∙◌}
use Rattle.algol_expr.proofs.Taken.{word_fails}
use Rattle.algol_expr.proofs.take.expect_word.Goals as goal

pub returns-else-is_word-clause-fails : goal.returns-else-is_word-clause-fails
returns-else-is_word-clause-fails c = word_fails _ _ _ _ _ _ c.first_of.ensures (sym c.is_word.ensures ∙ c.if-is_word.false) c.refused.ensures.left c.refused.ensures.refusal
