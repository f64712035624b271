-- The parts of an expression, and the operators between them.
use Rattle.std.specs.Prelude.{Option, Some, None}
use Rattle.algol_tree.specs.declared.level.Level.{Level}
use Rattle.algol_tree.specs.declared.level.Level.TheVariants as levels
use Rattle.algol_tree.specs.declared.token.TokenKind.{TokenKind}
use Rattle.algol_tree.specs.declared.token.TokenKind.TheVariants as kinds
use Rattle.algol_tree.specs.declared.token.Reserved.TheVariants as reserved
use Rattle.algol_tree.specs.declared.token.Symbol.TheVariants as symbols
use Rattle.algol_tree.specs.declared.tree.Op.{Op}
use Rattle.algol_tree.specs.declared.tree.Op.TheVariants as ops

-- expr; eqv, imp, or, and, sum and term, which are levels of operators with two operands; not; rel; primary
pub data Part : Type 0 where
  expr : Part
  level : Level → Part
  not_part : Part
  rel : Part
  primary : Part

-- what the operators of a level stand between
abbrev pub operand : Level → Part
operand levels.Eqv = level levels.Imp
operand levels.Imp = level levels.Or
operand levels.Or = level levels.And
operand levels.And = not_part
operand levels.Sum = level levels.Term
operand levels.Term = primary

-- eqv = imp { EQV imp }, and so on down to term
abbrev pub operator : Level → TokenKind → Option Op
operator levels.Eqv (kinds.Word reserved.Eqv) = Some ops.Eqv
operator levels.Imp (kinds.Word reserved.Imp) = Some ops.Imp
operator levels.Or (kinds.Word reserved.Or) = Some ops.Or
operator levels.And (kinds.Word reserved.And) = Some ops.And
operator levels.Sum (kinds.Symbol symbols.Plus) = Some ops.Add
operator levels.Sum (kinds.Symbol symbols.Minus) = Some ops.Sub
operator levels.Term (kinds.Symbol symbols.Times) = Some ops.Mul
operator levels.Term (kinds.Symbol symbols.Over) = Some ops.Over
operator levels.Term (kinds.Word reserved.Div) = Some ops.Div
operator levels.Term (kinds.Word reserved.Mod) = Some ops.Mod
operator l k = None

-- relop
abbrev pub relop : TokenKind → Option Op
relop (kinds.Word reserved.Lss) = Some ops.Lss
relop (kinds.Word reserved.Leq) = Some ops.Leq
relop (kinds.Word reserved.Eql) = Some ops.Eql
relop (kinds.Word reserved.Neq) = Some ops.Neq
relop (kinds.Word reserved.Geq) = Some ops.Geq
relop (kinds.Word reserved.Gtr) = Some ops.Gtr
relop (kinds.Symbol symbols.Less) = Some ops.Lss
relop (kinds.Symbol symbols.LessOrEqual) = Some ops.Leq
relop (kinds.Symbol symbols.Equal) = Some ops.Eql
relop (kinds.Symbol symbols.NotEqual) = Some ops.Neq
relop (kinds.Symbol symbols.GreaterOrEqual) = Some ops.Geq
relop (kinds.Symbol symbols.Greater) = Some ops.Gtr
relop k = None
