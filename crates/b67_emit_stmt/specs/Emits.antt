-- The code that is added for statements.
use Rattle.std.specs.Prelude.{ℕ, ◌+◌}
use Rattle.algol_tree.specs.declared.tree.Kind.TheVariants as types
use Rattle.algol_tree.specs.Plain.{PExpr, PStmt, PStmts}
use Rattle.b67_emit_stmt.specs.Places.{Place, CasesAt, ExprAt, StmtAt, StmtsAt}
use Rattle.b67_emit_stmt.specs.declared.draft.Known.{Known}
use Rattle.b67_ops.specs.declared.BranchKind.TheVariants.{Brfl, Brun}
use Rattle.b67_segment.specs.Operators.{size}
use Rattle.b67_segment.specs.Building.{level_set}
use Rattle.b67_templates.specs.Fragments.{BranchAt}
use Rattle.b67_emit_stmt.specs.Fits.{EmittedExprFits, EmittedStmtFits, EmittedStmtsFit}
use Rattle.b67_emit_stmt.specs.declared.draft.Draft.{Draft}
use Rattle.b67_emit_stmt.specs.Drafts.{Emits}
use Rattle.b67_emit_stmt.specs.Lengths.{expr_syllables, stmt_syllables, stmts_syllables}

-- the statement fits some scopes
abbrev pub HasFit : Known → Draft → PStmt → Type 0
HasFit scopes d s = (sc : Place) × EmittedStmtFits sc scopes (level_set d.out) s

abbrev pub HaveFit : Known → Draft → PStmts → Type 0
HaveFit scopes d ss = (sc : Place) × EmittedStmtsFit sc scopes (level_set d.out) ss

-- the code of a statement
abbrev pub EmitsStmt : Known → Draft → Draft → PStmt → Type 0
EmitsStmt scopes before after s =
    (sc : Place) → EmittedStmtFits sc scopes (level_set before.out) s →
    Emits (stmt_syllables scopes s) before after
    (λ later qs target. StmtAt sc later qs (level_set before.out) s (size before.out.operators) (size after.out.operators) target)

-- the code of statements one after another
abbrev pub EmitsStmts : Known → Draft → Draft → PStmts → Type 0
EmitsStmts scopes before after ss =
    (sc : Place) → EmittedStmtsFit sc scopes (level_set before.out) ss →
    Emits (stmts_syllables scopes ss) before after
    (λ later qs target. StmtsAt sc later qs (level_set before.out) ss (size before.out.operators) (size after.out.operators) target)

-- the table of CASE, and the statements after it
abbrev pub EmitsCases : Known → Draft → Draft → PStmts → Type 0
EmitsCases scopes before after ss =
    (sc : Place) → EmittedStmtsFit sc scopes (level_set before.out) ss →
    Emits (stmts_syllables scopes ss) before after
    (λ later qs target. CasesAt sc later qs (level_set before.out) ss (size before.out.operators) target)

-- the code of a statement whose exits go to the place after it
abbrev pub EmitsBody : Known → Draft → Draft → PStmt → Type 0
EmitsBody scopes before after s =
    (sc : Place) → EmittedStmtFits sc scopes (level_set before.out) s →
    Emits (stmt_syllables scopes s) before after
    (λ later qs target. StmtAt sc later qs (level_set before.out) s (size before.out.operators) (size after.out.operators) (size after.out.operators))

-- the code of IF with ELSE up to its second statement
abbrev pub EmitsThen : Known → Draft → Draft → PExpr → PStmt → Type 0
EmitsThen scopes before after c x =
    (sc : Place) → EmittedExprFits sc scopes (level_set before.out) types.Truth c → EmittedStmtFits sc scopes (level_set before.out) x →
    Emits (expr_syllables scopes c + stmt_syllables scopes x + 6) before after
    (λ later qs target.
    (m : ℕ) × (m' : ℕ) × (n : ℕ) × ExprAt sc later qs (level_set before.out) types.Truth c (size before.out.operators) m m
    × BranchAt qs (level_set before.out) Brfl m (size after.out.operators) m' × StmtAt sc later qs (level_set before.out) x m' n target
    × BranchAt qs (level_set before.out) Brun n target (size after.out.operators))

abbrev pub HasFitThen : Known → Draft → PExpr → PStmt → Type 0
HasFitThen scopes d c x =
    (sc : Place) × EmittedExprFits sc scopes (level_set d.out) types.Truth c × EmittedStmtFits sc scopes (level_set d.out) x
