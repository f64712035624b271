-- What single tokens are.
use Rattle.std.specs.Prelude.{◌≡◌, ℕ, nat_eq, Bool, true, false, ◌&&◌, List, [], ◌∷◌, Option, Some, None}
use denote.Enum.Bare.{sameb}
use Rattle.algol_tree.specs.contracts.token.Reserved as reserved_row
use Rattle.algol_tree.specs.contracts.token.Symbol as symbol_row
use Rattle.algol_tree.specs.declared.token.Token.{Token}
use Rattle.algol_tree.specs.declared.token.TokenKind.{TokenKind}
use Rattle.algol_tree.specs.declared.token.TokenKind.TheVariants as kinds
use Rattle.algol_tree.specs.declared.token.Reserved.{Reserved}
use Rattle.algol_tree.specs.declared.token.Symbol.{Symbol}
use Rattle.algol_tree.specs.declared.tree.Named.{Named}

abbrev pub IsWord : Reserved → Token → Type 0
IsWord word token = token.kind ≡ kinds.Word word

abbrev pub IsSymbol : Symbol → Token → Type 0
IsSymbol symbol token = token.kind ≡ kinds.Symbol symbol

-- the token is this name, at its place
pub record IsName (n : Named) (token : Token) : Type 0 where
  pub name : token.kind ≡ kinds.Name n.name
  pub place : token.spot ≡ n.spot

-- the token is a name that stands as written
abbrev pub IsSpelled : List ℕ → Token → Type 0
IsSpelled name token = token.kind ≡ kinds.Name name

-- the same as tests

abbrev pub same_word : Reserved → Reserved → Bool
same_word = sameb reserved_row.the_type

abbrev pub same_symbol : Symbol → Symbol → Bool
same_symbol = sameb symbol_row.the_type

abbrev pub is_word : Reserved → TokenKind → Bool
is_word w (kinds.Word v) = same_word v w
is_word w k = false

abbrev pub is_symbol : Symbol → TokenKind → Bool
is_symbol s (kinds.Symbol r) = same_symbol r s
is_symbol s k = false

abbrev pub name_in : TokenKind → Option (List ℕ)
name_in (kinds.Name name) = Some name
name_in k = None

abbrev pub same_name : List ℕ → List ℕ → Bool
same_name [] [] = true
same_name (a ∷ as') (b ∷ bs) = nat_eq a b && same_name as' bs
same_name a b = false

abbrev pub is_spelled : List ℕ → TokenKind → Bool
is_spelled name (kinds.Name other) = same_name other name
is_spelled name k = false
