use Rattle.std.proofs.Common.{◌≡◌, true, false, sym, ◌∙◌}
use Rattle.algol_expr.proofs.Taken.{spelled_passes, spelled_fails}
use Rattle.algol_expr.proofs.take.expect_spelled.Goals as goal

pub returns-then-is_spelled-clause-passes : goal.returns-then-is_spelled-clause-passes
returns-then-is_spelled-clause-passes c = spelled_passes _ _ _ _ c.first_of.ensures c.requires.ended (c.is_spelled.ensures.0 c.if-is_spelled.true)

pub returns-else-is_spelled-clause-fails : goal.returns-else-is_spelled-clause-fails
returns-else-is_spelled-clause-fails c = spelled_fails _ _ _ _ _ _ c.first_of.ensures
    (λ s. let no : true ≡ false = sym (c.is_spelled.ensures.1 s) ∙ c.if-is_spelled.false in cc) c.refused.ensures.left c.refused.ensures.refusal
