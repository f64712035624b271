-- What comes of the lexer: of a record, and of a text.
use Rattle.std.specs.Prelude.{◌≡◌, ℕ, List, ◌++◌}
use Rattle.algol_tree.specs.declared.refusal.Code.{Code}
use Rattle.algol_tree.specs.declared.token.Spot.{Spot}
use Rattle.algol_tree.specs.declared.token.Token.{Token}
use Rattle.algol_tree.specs.Records.{Record}
use Rattle.algol_tree.specs.Lexes.{Mode, IsRead, Lexes, TextIsRefused}

-- the tokens of the record are put after those before
pub record RecordReads (r : Record) (m n : Mode) (before after : List Token) : Type 0 where
  pub tokens : List Token
  pub read : IsRead r m tokens n
  pub appended : after ≡ before ++ tokens

-- The text is these tokens and no others, and it is not refused.
pub record LexesOnly (bytes : List ℕ) (tokens : List Token) : Type 0 where
  pub lexes : Lexes bytes tokens
  pub only : (others : List Token) → Lexes bytes others → others ≡ tokens
  pub read : (spot : Spot) (code : Code) → TextIsRefused bytes spot code → ⊥

-- The text is refused at this spot for this reason and at no other or for no other, and no tokens are it.
pub record RefusedOnly (bytes : List ℕ) (spot : Spot) (code : Code) : Type 0 where
  pub refused : TextIsRefused bytes spot code
  pub first : (other : Spot) (reason : Code) → TextIsRefused bytes other reason → (other ≡ spot) × (reason ≡ code)
  pub none : (tokens : List Token) → Lexes bytes tokens → ⊥
