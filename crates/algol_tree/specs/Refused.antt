-- Where tokens are refused, as an expression that stands in no other and as a program.
use Rattle.std.specs.Prelude.{◌≡◌, ◌+◌, ℕ, List, [], ◌∷◌, ◌++◌, length}
use Rattle.algol_tree.specs.declared.token.Spot.{Spot}
use Rattle.algol_tree.specs.declared.token.Token.{Token}
use Rattle.algol_tree.specs.declared.token.TokenKind.TheVariants as kinds
use Rattle.algol_tree.specs.declared.refusal.Code.TheVariants as codes
use Rattle.algol_tree.specs.declared.refusal.Refusal.{Refusal}
use Rattle.algol_tree.specs.declared.refusal.Refusal.TheVariants as refusals
use Rattle.algol_tree.specs.Plain.{PExpr, PProgram}
use Rattle.algol_tree.specs.Expressions.{IsWholeExpression}
use Rattle.algol_tree.specs.Programs.{IsProgram}

-- What texts there are: a text is one where all tokens but the last `free` ones keep the limits; where there are no more of them, none is judged.
abbrev pub Language : Type 1
Language = ℕ → List Token → Type 0

-- the texts that are one expression where d levels are open, and those that are a program, without the end of the text
abbrev pub Expressions : ℕ → Language
Expressions d free text = (e : PExpr) × IsWholeExpression free d text e []

abbrev pub Programs : Language
Programs free text = (p : PProgram) × IsProgram free text p []

-- The first token through which no text goes: the tokens before it begin one and are none whole, and with it they begin none, whatever
-- the limits.
pub record IsUnexpected (texts : Language) (tokens : List Token) (spot : Spot) : Type 0 where
  pub front : List Token
  pub token : Token
  pub rest : List Token
  pub is : tokens ≡ front ++ token ∷ rest
  pub place : spot ≡ token.spot
  pub good : (more : List Token) × texts (length more) (front ++ more)
  pub unfinished : (free : ℕ) → texts free front → ⊥
  pub none : (free : ℕ) (more : List Token) → texts free (front ++ token ∷ more) → ⊥

-- The token that breaks a limit: with the tokens `ahead` after it they begin a text whose tokens before it keep the limits, and none
-- in which it keeps them too. What follows a name tells whether it is a label, so a token ahead may be needed.
pub record IsTooDeep (texts : Language) (tokens : List Token) (spot : Spot) : Type 0 where
  pub front : List Token
  pub token : Token
  pub ahead : List Token
  pub rest : List Token
  pub is : tokens ≡ front ++ token ∷ (ahead ++ rest)
  pub place : spot ≡ token.spot
  pub good : (more : List Token) × texts (1 + length (ahead ++ more)) (front ++ token ∷ (ahead ++ more))
  pub none : (more : List Token) → texts (length (ahead ++ more)) (front ++ token ∷ (ahead ++ more)) → ⊥

-- The first token after a whole text, which is not the end of the tokens.
pub record IsBehind (texts : Language) (tokens : List Token) (spot : Spot) : Type 0 where
  pub front : List Token
  pub token : Token
  pub rest : List Token
  pub is : tokens ≡ front ++ token ∷ rest
  pub place : spot ≡ token.spot
  pub good : texts 0 front
  pub more : token.kind ≡ kinds.End → ⊥

-- why an expression is not read where d levels are open, and why a program is not
abbrev pub RefusedExpression : ℕ → List Token → Refusal → Type 0
RefusedExpression d tokens (refusals.At spot codes.Unexpected) = IsUnexpected (Expressions d) tokens spot
RefusedExpression d tokens (refusals.At spot codes.TooDeep) = IsTooDeep (Expressions d) tokens spot
RefusedExpression d tokens (refusals.At spot code) = ⊥
RefusedExpression d tokens refusals.NoMemory = Unit {0}

abbrev pub RefusedProgram : List Token → Refusal → Type 0
RefusedProgram tokens (refusals.At spot codes.Unexpected) = IsUnexpected Programs tokens spot
RefusedProgram tokens (refusals.At spot codes.TooDeep) = IsTooDeep Programs tokens spot
RefusedProgram tokens (refusals.At spot codes.TextAfterEnd) = IsBehind Programs tokens spot
RefusedProgram tokens (refusals.At spot code) = ⊥
RefusedProgram tokens refusals.NoMemory = Unit {0}

-- The expression is as long as can be: no expression begins with its tokens and the first of what follows.
pub record IsLongest (d : ℕ) (tokens rest : List Token) : Type 0 where
  pub front : List Token
  pub token : Token
  pub after : List Token
  pub is : tokens ≡ front ++ token ∷ after
  pub follows : rest ≡ token ∷ after
  pub none : (free : ℕ) (more : List Token) → Expressions d free (front ++ token ∷ more) → ⊥
