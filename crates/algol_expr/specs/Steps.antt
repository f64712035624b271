-- What an expression begins with, the steps from there up, and what has been read where some of them are still due.
use Rattle.std.specs.Prelude.{◌≡◌, ℕ, Bool, true, false, ⊤, List, [], ◌∷◌, ◌++◌, take, drop}
use Rattle.algol_tree.specs.declared.level.Level.TheVariants as levels
use Rattle.algol_tree.specs.declared.token.Token.{Token}
use Rattle.algol_tree.specs.declared.token.TokenKind.{TokenKind}
use Rattle.algol_tree.specs.declared.token.Reserved.TheVariants as reserved
use Rattle.algol_tree.specs.Tokens.{is_word}
use Rattle.algol_tree.specs.Operators.{Part, level, not_part, primary}
use Rattle.algol_tree.specs.Due.{Value, Due, part, more_of, relation}
use Rattle.algol_tree.specs.DueExpr.{is_sign}
use Rattle.algol_tree.specs.Reading.{read}
use Rattle.algol_tree.specs.Found.{IsRest}
use Rattle.algol_expr.specs.declared.step.Start.{Start}
use Rattle.algol_expr.specs.declared.step.Start.TheVariants.{Not, Sign, Primary}
use Rattle.algol_expr.specs.declared.step.Step.{Step}
use Rattle.algol_expr.specs.declared.step.Step.TheVariants.{Operators, Relation}

abbrev pub not_or : Bool → Start → Start
not_or true s = Not
not_or false s = s

abbrev pub sign_or_primary : Bool → Start
sign_or_primary true = Sign
sign_or_primary false = Primary

abbrev pub sum_start : TokenKind → Start
sum_start k = sign_or_primary (is_sign k)

-- what an expression up to this step begins with
abbrev pub start_of : Step → TokenKind → Start
start_of (Operators levels.Term) k = Primary
start_of (Operators levels.Sum) k = sum_start k
start_of s k = not_or (is_word reserved.Not k) (sum_start k)

-- the first of these tokens begins so
abbrev pub IsStart : Start → List Token → Type 0
IsStart Not (t ∷ ts) = is_word reserved.Not t.kind ≡ true
IsStart Sign (t ∷ ts) = is_sign t.kind ≡ true
IsStart s ts = ⊤

abbrev pub steps_in_order : List Step
steps_in_order = Operators levels.Term ∷ Operators levels.Sum ∷ Relation ∷ Operators levels.And ∷ Operators levels.Or ∷ Operators levels.Imp ∷ Operators levels.Eqv ∷ []

abbrev pub first_place : Start → ℕ
first_place Primary = 0
first_place Sign = 1
first_place Not = 3

abbrev pub end_place : Step → ℕ
end_place (Operators levels.Term) = 1
end_place (Operators levels.Sum) = 2
end_place Relation = 3
end_place (Operators levels.And) = 4
end_place (Operators levels.Or) = 5
end_place (Operators levels.Imp) = 6
end_place (Operators levels.Eqv) = 7

abbrev pub steps : Start → Step → List Step
steps start last = drop (first_place start) (take (end_place last) steps_in_order)

-- the part of an expression that the steps up to this one make, and what is due of this step
abbrev pub part_of_step : Step → Part
part_of_step (Operators l) = level l
part_of_step Relation = not_part

abbrev pub due_of : ℕ → Step → Due
due_of d (Operators l) = more_of l d
due_of d Relation = relation d

abbrev pub begins_with : Start → Part
begins_with Not = not_part
begins_with Sign = level levels.Sum
begins_with Primary = primary

-- what is still due of that part after its beginning
abbrev pub leaves : Start → ℕ → List Due
leaves Sign d = more_of levels.Sum d ∷ []
leaves s d = []

-- The beginning is read from these tokens up to `rest`, and makes this value.
pub record ExprBegins (start : Start) (d : ℕ) (tokens : List Token) (v : Value) (rest : List Token) : Type 0 where
  pub run : (due : List Due) (vs : List Value) → read 0 tokens (part (begins_with start) d ∷ due) vs ≡ read 0 rest (leaves start d ++ due) (v ∷ vs)
  pub behind : IsRest tokens rest
