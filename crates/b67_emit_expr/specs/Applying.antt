-- An operator on the value of an expression.
use Rattle.std.specs.Prelude.{ℕ}
use Rattle.algol_tree.specs.declared.tree.Kind.{Kind}
use Rattle.algol_tree.specs.Plain.{PExpr}
use Rattle.algol_tree.specs.Scopes.{Scopes}
use Rattle.b67_ops.specs.declared.PlainKind.{PlainKind}
use Rattle.b67_ops.specs.declared.Operator.TheVariants as ops
use Rattle.b67_templates.specs.Contexts.{Context}
use Rattle.b67_segment.specs.Operators.{size}
use Rattle.b67_segment.specs.Building.{Built}
use Rattle.b67_templates.specs.Fragments.{Has}
use Rattle.b67_templates.specs.Code.{ExprAt}
use Rattle.b67_templates.specs.Emitting.{Emitted}
use Rattle.b67_templates.specs.Fitting.{ExprFits}
use Rattle.b67_emitter.specs.declared.names.Names.{Names}
use Rattle.b67_emitter.specs.Values.{meanings}

-- From the first builder to the second the expression's code was appended, and then this operator.
pub record AppliedEmitted (s : Names) (level : ℕ) (before after : Built) (operator : PlainKind) (e : PExpr) : Type 0 where
  pub code :
      (scopes : Scopes) (context : Context) (kind : Kind) → ExprFits scopes (meanings s) context.level context.block kind e →
      Emitted before after
      (λ qs. (m : ℕ) × ExprAt scopes context qs level kind e (size before.operators) m m × Has qs level m (ops.Plain operator) (size after.operators))
