-- Reading tokens against what is due of a program, said of the grammar.
use Rattle.std.specs.Prelude.{◌≡◌, ◌⊎◌, ℕ, List, [], ◌∷◌}
use Rattle.algol_tree.specs.declared.refusal.Code.{Code}
use Rattle.algol_tree.specs.declared.refusal.Code.TheVariants as codes
use Rattle.algol_tree.specs.declared.token.Spot.{Spot}
use Rattle.algol_tree.specs.declared.token.Token.{Token}
use Rattle.algol_tree.specs.declared.token.TokenKind.TheVariants as kinds
use Rattle.algol_tree.specs.Plain.{PProgram}
use Rattle.algol_tree.specs.Programs.{IsProgram}
use Rattle.algol_tree.specs.Refused.{Programs, IsUnexpected, IsTooDeep, IsBehind}
use Rattle.algol_tree.specs.Due.{program, whole_program}
use Rattle.algol_tree.specs.Reading.{to, refused, read}

-- What is read as a program is one; where reading meets a token of nothing that is due, it is the first through which no program goes;
-- where it stops at a limit, that is the token which breaks it; it is refused for no other reason; where it ends before a token that is
-- not the end of the text, that is the first after a program.
pub record IsExact (tokens : List Token) : Type 0 where
  pub reads : (tree : PProgram) (rest : List Token) → read 0 tokens (program ∷ []) [] ≡ to rest (whole_program tree ∷ []) → IsProgram 0 tokens tree rest
  pub unexpected : (left : ℕ) (spot : Spot) → read 0 tokens (program ∷ []) [] ≡ refused left spot codes.Unexpected → IsUnexpected Programs tokens spot
  pub too_deep : (left : ℕ) (spot : Spot) → read 0 tokens (program ∷ []) [] ≡ refused left spot codes.TooDeep → IsTooDeep Programs tokens spot
  pub only : (left : ℕ) (spot : Spot) (code : Code) → read 0 tokens (program ∷ []) [] ≡ refused left spot code → (code ≡ codes.Unexpected) ⊎ (code ≡ codes.TooDeep)
  pub behind : (token : Token) (rest : List Token) (tree : PProgram) → read 0 tokens (program ∷ []) [] ≡ to (token ∷ rest) (whole_program tree ∷ []) →
      (token.kind ≡ kinds.End → ⊥) → IsBehind Programs tokens token.spot

abbrev pub ReadExactly : Type 0
ReadExactly = (tokens : List Token) → IsExact tokens
