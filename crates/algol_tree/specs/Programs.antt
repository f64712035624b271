-- A text of tokens and the program that it reads as.
use Rattle.std.specs.Prelude.{◌≡◌, ℕ, List, [], ◌∷◌}
use Rattle.algol_tree.specs.declared.token.Token.{Token}
use Rattle.algol_tree.specs.declared.token.TokenKind.TheVariants as kinds
use Rattle.algol_tree.specs.declared.token.Reserved.TheVariants as reserved
use Rattle.algol_tree.specs.declared.token.Symbol.TheVariants as symbols
use Rattle.algol_tree.specs.Plain.{PBody, PProgram, program}
use Rattle.algol_tree.specs.Tokens.{IsWord, IsSymbol}
use Rattle.algol_tree.specs.Statements.{IsBody}

-- program = BEGIN body END "."; its BEGIN opens the first level
pub data IsProgram (free : ℕ) : List Token → PProgram → List Token → Type 0 where
  whole : (t u v : Token) (b : PBody) (from rest : List Token) →
      IsWord reserved.Begin t → IsBody free 1 t.spot from b (u ∷ v ∷ rest) → IsWord reserved.End u → IsSymbol symbols.Period v →
      IsProgram free (t ∷ from) (program b) rest

-- The tokens, of which the last is the end of the text, are those of this program, and keep all limits.
pub record Reads (tokens : List Token) (tree : PProgram) : Type 0 where
  pub last : Token
  pub is : IsProgram 0 tokens tree (last ∷ [])
  pub ended : last.kind ≡ kinds.End
