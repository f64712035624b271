-- The tokens that no part of an expression goes on with.
use Rattle.std.specs.Prelude.{◌≡◌, Bool, true, false, ◌&&◌, List, [], ◌∷◌, Option, Some, None}
use Rattle.algol_tree.specs.declared.token.Token.{Token}
use Rattle.algol_tree.specs.declared.token.TokenKind.{TokenKind}
use Rattle.algol_tree.specs.declared.token.TokenKind.TheVariants as kinds
use Rattle.algol_tree.specs.declared.token.Symbol.TheVariants as symbols
use Rattle.algol_tree.specs.declared.tree.Op.{Op}
use Rattle.algol_tree.specs.declared.level.Level.TheVariants as levels
use Rattle.algol_tree.specs.Operators.{Part, expr, level, not_part, rel, primary, operator, relop}

abbrev pub nothing : Option Op → Bool
nothing None = true
nothing (Some op) = false

abbrev pub ends_primary : TokenKind → Bool
ends_primary (kinds.Symbol symbols.OpenSquare) = false
ends_primary (kinds.Symbol symbols.OpenRound) = false
ends_primary k = true

abbrev pub part_ends : Part → TokenKind → Bool
part_ends expr k = ends_primary k && nothing (operator levels.Term k) && nothing (operator levels.Sum k) && nothing (relop k) && nothing (operator levels.And k) && nothing (operator levels.Or k) && nothing (operator levels.Imp k) && nothing (operator levels.Eqv k)
part_ends (level levels.Eqv) k = ends_primary k && nothing (operator levels.Term k) && nothing (operator levels.Sum k) && nothing (relop k) && nothing (operator levels.And k) && nothing (operator levels.Or k) && nothing (operator levels.Imp k) && nothing (operator levels.Eqv k)
part_ends (level levels.Imp) k = ends_primary k && nothing (operator levels.Term k) && nothing (operator levels.Sum k) && nothing (relop k) && nothing (operator levels.And k) && nothing (operator levels.Or k) && nothing (operator levels.Imp k)
part_ends (level levels.Or) k = ends_primary k && nothing (operator levels.Term k) && nothing (operator levels.Sum k) && nothing (relop k) && nothing (operator levels.And k) && nothing (operator levels.Or k)
part_ends (level levels.And) k = ends_primary k && nothing (operator levels.Term k) && nothing (operator levels.Sum k) && nothing (relop k) && nothing (operator levels.And k)
part_ends not_part k = ends_primary k && nothing (operator levels.Term k) && nothing (operator levels.Sum k) && nothing (relop k)
part_ends rel k = ends_primary k && nothing (operator levels.Term k) && nothing (operator levels.Sum k) && nothing (relop k)
part_ends (level levels.Sum) k = ends_primary k && nothing (operator levels.Term k) && nothing (operator levels.Sum k)
part_ends (level levels.Term) k = ends_primary k && nothing (operator levels.Term k)
part_ends primary k = ends_primary k

-- the tokens go on with one that the part doesn't go on with
abbrev pub Ends : Part → List Token → Type 0
Ends p [] = Unit {0}
Ends p (t ∷ rest) = part_ends p t.kind ≡ true
