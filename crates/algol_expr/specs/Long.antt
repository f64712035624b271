-- A text of tokens in which one stands after as many as an expression may have.
use Rattle.std.specs.Prelude.{◌≡◌, ◌<◌, ℕ, List, ◌∷◌, ◌++◌, length}
use Rattle.algol_tree.specs.declared.TheConstants.{MOST_EXPRESSION_TOKENS}
use Rattle.algol_tree.specs.declared.token.Token.{Token}
use Rattle.algol_tree.specs.declared.refusal.Code.TheVariants as codes
use Rattle.algol_tree.specs.declared.refusal.Refusal.{Refusal}
use Rattle.algol_tree.specs.declared.refusal.Refusal.TheVariants as refusals

-- The token after as many as an expression may have stands before the last `left` ones, and the refusal is for it.
pub record IsLong (tokens : List Token) (left : ℕ) (e : Refusal) : Type 0 where
  pub front : List Token
  pub token : Token
  pub rest : List Token
  pub is : tokens ≡ front ++ token ∷ rest
  pub place : length front ≡ MOST_EXPRESSION_TOKENS
  pub before : left < length (token ∷ rest)
  pub refusal : e ≡ refusals.At token.spot codes.TooDeep
