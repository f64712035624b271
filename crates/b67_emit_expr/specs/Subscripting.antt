-- The subscripts of an element of an array.
use Rattle.std.specs.Prelude.{◌≡◌, ℕ, ◌≤◌, ℤ}
use Rattle.algol_tree.specs.declared.tree.Kind.TheVariants as types
use Rattle.algol_tree.specs.declared.tree.Named.{Named}
use Rattle.algol_tree.specs.Plain as tree
use Rattle.algol_tree.specs.Plain.{PExpr, PExprs, PVariable}
use Rattle.algol_tree.specs.Scopes.{Scopes}
use Rattle.algol_paths.specs.Arrays.{Shape}
use Rattle.b67_ops.specs.declared.Couple.{Couple}
use Rattle.b67_segment.specs.Operators.{size}
use Rattle.b67_segment.specs.Building.{Built}
use Rattle.b67_templates.specs.Contexts.{Context}
use Rattle.b67_templates.specs.Fragments.{MovedAt}
use Rattle.b67_templates.specs.Cells.{IsArray}
use Rattle.b67_templates.specs.Code.{ExprAt, SubscriptsAt}
use Rattle.b67_templates.specs.Emitting.{Emitted}
use Rattle.b67_templates.specs.Fitting.{ExprFits}
use Rattle.b67_emitter.specs.declared.names.Names.{Names}
use Rattle.b67_emitter.specs.Values.{meanings, ElementFits}

-- From the first builder to the second the subscript's code was appended, and then its move by this lower bound.
pub record SubscriptEmitted (s : Names) (level : ℕ) (before after : Built) (low : ℤ) (e : PExpr) : Type 0 where
  pub code :
      (scopes : Scopes) (context : Context) → ExprFits scopes (meanings s) context.level context.block types.Number e →
      Emitted before after
      (λ qs. (m : ℕ) × ExprAt scopes context qs level types.Number e (size before.operators) m m × MovedAt qs level low m (size after.operators))

-- the subscripts have code at that level: they fit there or further out, in whatever program names have this meaning
pub record HasSubscripts (s : Names) (level : ℕ) (v : PVariable) : Type 0 where
  pub scopes : Scopes
  pub own : ℕ
  pub block : ℕ
  pub name : Named
  pub shape : Shape
  pub subscripts : PExprs
  pub variable_is : v ≡ tree.subscripted name subscripts
  pub outer : own ≤ level
  pub fits : ElementFits s scopes own block name shape subscripts

-- From the first builder to the second the code of the subscripts was appended, up to what leads to the element.
pub record SubscriptsEmitted (s : Names) (level : ℕ) (before after : Built) (v : PVariable) : Type 0 where
  pub code :
      (scopes : Scopes) (context : Context) (name : Named) (shape : Shape) (es : PExprs) → v ≡ tree.subscripted name es →
      ElementFits s scopes context.level context.block name shape es →
      Emitted before after (λ qs. (c : Couple) × IsArray scopes context.level name shape c
      × SubscriptsAt scopes context qs level c shape.lows es (size before.operators) (size after.operators))
