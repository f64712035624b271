-- The tokens that no part goes on with.
use Rattle.std.proofs.Common.{◌≡◌, true, false, ◌&&◌, Option, Some, None, refl}
use Rattle.algol_tree.specs.declared.token.TokenKind.{TokenKind}
use Rattle.algol_tree.specs.declared.token.TokenKind.TheVariants as kinds
use Rattle.algol_tree.specs.declared.token.Reserved.TheVariants as reserved
use Rattle.algol_tree.specs.declared.token.Symbol.TheVariants as symbols
use Rattle.algol_tree.specs.declared.tree.Op.{Op}
use Rattle.algol_tree.specs.declared.level.Level.{Level}
use Rattle.algol_tree.specs.declared.level.Level.TheVariants as levels
use Rattle.algol_tree.specs.Tokens.{is_symbol}
use Rattle.algol_tree.specs.Operators.{level, rel, operand, operator, relop}
use Rattle.algol_tree.specs.Ends.{nothing, ends_primary, part_ends}
use Rattle.b67_list.proofs.Truths.{and_both}

pub level_ends : (l : Level) (k : TokenKind) → part_ends (level l) k ≡ (part_ends (operand l) k && nothing (operator l k))
level_ends levels.Eqv k = refl
level_ends levels.Imp k = refl
level_ends levels.Or k = refl
level_ends levels.And k = refl
level_ends levels.Sum k = refl
level_ends levels.Term k = refl

pub nothing_is : (o : Option Op) → nothing o ≡ true → o ≡ None
nothing_is None e = refl
nothing_is (Some op) e = cc

-- an operator ends what stands before it
pub operator_ends : (l : Level) (k : TokenKind) (op : Op) → operator l k ≡ Some op → part_ends (operand l) k ≡ true
operator_ends levels.Eqv (kinds.Word reserved.Eqv) op e = refl
operator_ends levels.Imp (kinds.Word reserved.Imp) op e = refl
operator_ends levels.Or (kinds.Word reserved.Or) op e = refl
operator_ends levels.And (kinds.Word reserved.And) op e = refl
operator_ends levels.Sum (kinds.Symbol symbols.Plus) op e = refl
operator_ends levels.Sum (kinds.Symbol symbols.Minus) op e = refl
operator_ends levels.Term (kinds.Symbol symbols.Times) op e = refl
operator_ends levels.Term (kinds.Symbol symbols.Over) op e = refl
operator_ends levels.Term (kinds.Word reserved.Div) op e = refl
operator_ends levels.Term (kinds.Word reserved.Mod) op e = refl
operator_ends l k op e = cc

pub relop_ends : (k : TokenKind) (op : Op) → relop k ≡ Some op → part_ends (level levels.Sum) k ≡ true
relop_ends (kinds.Word reserved.Lss) op e = refl
relop_ends (kinds.Word reserved.Leq) op e = refl
relop_ends (kinds.Word reserved.Eql) op e = refl
relop_ends (kinds.Word reserved.Neq) op e = refl
relop_ends (kinds.Word reserved.Geq) op e = refl
relop_ends (kinds.Word reserved.Gtr) op e = refl
relop_ends (kinds.Symbol symbols.Less) op e = refl
relop_ends (kinds.Symbol symbols.LessOrEqual) op e = refl
relop_ends (kinds.Symbol symbols.Equal) op e = refl
relop_ends (kinds.Symbol symbols.NotEqual) op e = refl
relop_ends (kinds.Symbol symbols.GreaterOrEqual) op e = refl
relop_ends (kinds.Symbol symbols.Greater) op e = refl
relop_ends k op e = cc

-- what a level begins with ends before what the level goes on with
pub operand_ends : (l : Level) (k : TokenKind) → part_ends (level l) k ≡ true → part_ends (operand l) k ≡ true
operand_ends l k e = (and_both (part_ends (operand l) k) (nothing (operator l k)) (sym' e)).0
  where
    sym' : part_ends (level l) k ≡ true → (part_ends (operand l) k && nothing (operator l k)) ≡ true
    sym' e = rw (level_ends l k) at e

-- and the level doesn't go on
pub level_over : (l : Level) (k : TokenKind) → part_ends (level l) k ≡ true → operator l k ≡ None
level_over l k e = nothing_is (operator l k) (and_both (part_ends (operand l) k) (nothing (operator l k)) (rw (level_ends l k) at e)).1

pub rel_ends : (k : TokenKind) → part_ends rel k ≡ true → (part_ends (level levels.Sum) k ≡ true) × (relop k ≡ None)
rel_ends k e = let p = and_both (part_ends (level levels.Sum) k) (nothing (relop k)) e in (p.0, nothing_is (relop k) p.1)

pub primary_over : (k : TokenKind) → ends_primary k ≡ true → (is_symbol symbols.OpenSquare k ≡ false) × (is_symbol symbols.OpenRound k ≡ false)
primary_over (kinds.Symbol symbols.OpenSquare) e = cc
primary_over (kinds.Symbol symbols.OpenRound) e = cc
primary_over (kinds.Symbol s) e = (refl, refl)
primary_over k e = (refl, refl)

pub operator_end : (l : Level) → operator l kinds.End ≡ None
operator_end levels.Eqv = refl
operator_end levels.Imp = refl
operator_end levels.Or = refl
operator_end levels.And = refl
operator_end levels.Sum = refl
operator_end levels.Term = refl
