-- The parts of CASE.
use Rattle.std.specs.Prelude.{◌≡◌, ℕ, zero, suc, ◌+◌, List}
use Rattle.algol_tree.specs.declared.tree.Kind.TheVariants as types
use Rattle.algol_tree.specs.Plain.{PExpr}
use Rattle.b67_emit_stmt.specs.Places.{Later, Place, ExprAt, CaseTableAt}
use Rattle.b67_ops.specs.declared.Operator.TheVariants.{Branch}
use Rattle.b67_ops.specs.declared.BranchKind.TheVariants.{Brun}
use Rattle.b67_ops.specs.declared.intrinsic.Intrinsic.TheVariants.{Select}
use Rattle.b67_segment.specs.Operators.{Placed}
use Rattle.b67_templates.specs.Fragments.{Has, IntrinsicAt}

-- CASE up to its table
abbrev pub SelectAt : Place → Later → List Placed → ℕ → PExpr → ℕ → ℕ → ℕ → Type 0
SelectAt sc later ps level e many f t =
    (a : ℕ) × (m : ℕ) × IntrinsicAt ps level Select f a × ExprAt sc later ps level types.Number e a m m × CaseTableAt sc later ps level many m t

-- a table whose branches are not aimed yet
abbrev pub EntriesAt : List Placed → ℕ → ℕ → ℕ → ℕ → Type 0
EntriesAt ps level zero f t = f ≡ t
EntriesAt ps level (suc many) f t = Has ps level f (Branch Brun 0) (f + 3) × EntriesAt ps level many (f + 3) t
