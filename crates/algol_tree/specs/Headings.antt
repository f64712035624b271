-- The grammar of lists of names, of files, of bounds, and of headings of procedures. `IsX from x rest`: the tokens `from` begin
-- with those of x, and `rest` is what follows. There is one case for each form of a production.
use Rattle.std.specs.Prelude.{◌≡◌, ℤ, pos, ◌-ℤ◌, List, [], ◌∷◌, Option, Some, None, codes}
use Rattle.algol_tree.specs.declared.token.Token.{Token}
use Rattle.algol_tree.specs.declared.token.TokenKind.{TokenKind}
use Rattle.algol_tree.specs.declared.token.TokenKind.TheVariants as kinds
use Rattle.algol_tree.specs.declared.token.Reserved.TheVariants as reserved
use Rattle.algol_tree.specs.declared.token.Symbol.TheVariants as symbols
use Rattle.algol_tree.specs.declared.tree.Named.{Named}
use Rattle.algol_tree.specs.declared.tree.Kind.{Kind}
use Rattle.algol_tree.specs.declared.tree.Kind.TheVariants as types
use Rattle.algol_tree.specs.declared.tree.Heading.{Heading}
use Rattle.algol_tree.specs.declared.tree.Spec.{Spec}
use Rattle.algol_tree.specs.declared.tree.Spec.TheVariants as specs
use Rattle.algol_tree.specs.Tokens.{IsWord, IsSymbol, IsName, IsSpelled}

-- type = INTEGER | REAL | BOOLEAN
abbrev pub type_of : TokenKind → Option Kind
type_of (kinds.Word reserved.Integer) = Some types.Number
type_of (kinds.Word reserved.Real) = Some types.Number
type_of (kinds.Word reserved.Boolean) = Some types.Truth
type_of k = None

-- [ type ] before ARRAY or PROCEDURE
pub data IsTyped : List Token → Option Kind → List Token → Type 0 where
  untyped : (rest : List Token) → IsTyped rest None rest
  typed : (t : Token) (kind : Kind) (rest : List Token) → type_of t.kind ≡ Some kind → IsTyped (t ∷ rest) (Some kind) rest

-- an array without a type is REAL
abbrev pub elements_of : Option Kind → Kind
elements_of None = types.Number
elements_of (Some kind) = kind

-- names = name { "," name }
pub data IsNames : List Token → List Named → List Token → Type 0 where
  last : (t : Token) (n : Named) (rest : List Token) → IsName n t → IsNames (t ∷ rest) (n ∷ []) rest
  comma : (t u : Token) (n : Named) (ns : List Named) (from rest : List Token) →
      IsName n t → IsSymbol symbols.Comma u → IsNames from ns rest → IsNames (t ∷ u ∷ from) (n ∷ ns) rest

-- file = name [ "(" KIND "=" PRINTER ")" ]
pub data IsFile : List Token → Named → List Token → Type 0 where
  bare : (t : Token) (n : Named) (rest : List Token) → IsName n t → IsFile (t ∷ rest) n rest
  printer : (t opening key equal value closing : Token) (n : Named) (rest : List Token) →
      IsName n t → IsSymbol symbols.OpenRound opening → IsSpelled (codes "KIND") key → IsSymbol symbols.Equal equal →
      IsSpelled (codes "PRINTER") value → IsSymbol symbols.CloseRound closing →
      IsFile (t ∷ opening ∷ key ∷ equal ∷ value ∷ closing ∷ rest) n rest

-- file { "," file }
pub data IsFiles : List Token → List Named → List Token → Type 0 where
  last : (n : Named) (from rest : List Token) → IsFile from n rest → IsFiles from (n ∷ []) rest
  comma : (u : Token) (n : Named) (ns : List Named) (from after rest : List Token) →
      IsFile from n (u ∷ after) → IsSymbol symbols.Comma u → IsFiles after ns rest → IsFiles from (n ∷ ns) rest

-- literal = [ "-" ] number
pub data IsLiteral : List Token → ℤ → List Token → Type 0 where
  positive : (t : Token) (value : ℤ) (rest : List Token) → t.kind ≡ kinds.Number value → IsLiteral (t ∷ rest) value rest
  negative : (t u : Token) (value : ℤ) (rest : List Token) → IsSymbol symbols.Minus t → u.kind ≡ kinds.Number value → IsLiteral (t ∷ u ∷ rest) (pos 0 -ℤ value) rest

-- literal [ "," literal ]
pub data IsLows : List Token → List ℤ → List Token → Type 0 where
  one : (low : ℤ) (from rest : List Token) → IsLiteral from low rest → IsLows from (low ∷ []) rest
  two : (u : Token) (low other : ℤ) (from after rest : List Token) →
      IsLiteral from low (u ∷ after) → IsSymbol symbols.Comma u → IsLiteral after other rest → IsLows from (low ∷ other ∷ []) rest

-- spec = type names ";" | EVENT names ";" | [ type ] ARRAY names "[" literal [ "," literal ] "]" ";"
pub data IsSpec : List Token → Spec → List Token → Type 0 where
  simple : (t u : Token) (kind : Kind) (ns : List Named) (from rest : List Token) →
      type_of t.kind ≡ Some kind → IsNames from ns (u ∷ rest) → IsSymbol symbols.Semicolon u → IsSpec (t ∷ from) (specs.Simple kind ns) rest
  events : (t u : Token) (ns : List Named) (from rest : List Token) →
      IsWord reserved.Event t → IsNames from ns (u ∷ rest) → IsSymbol symbols.Semicolon u → IsSpec (t ∷ from) (specs.Events ns) rest
  arrays : (t u v w : Token) (kind : Option Kind) (ns : List Named) (lows : List ℤ) (from names mid rest : List Token) →
      IsTyped from kind (t ∷ names) → IsWord reserved.Array t → IsNames names ns (u ∷ mid) → IsSymbol symbols.OpenSquare u →
      IsLows mid lows (v ∷ w ∷ rest) → IsSymbol symbols.CloseSquare v → IsSymbol symbols.Semicolon w →
      IsSpec from (specs.Arrays (elements_of kind) ns lows) rest

-- spec { spec }: no body begins as a specification does, so one is read as long as one can begin
pub data IsSpecs : List Token → List Spec → List Token → Type 0 where
  last : (s : Spec) (from rest : List Token) → IsSpec from s rest → IsSpecs from (s ∷ []) rest
  on : (s : Spec) (ss : List Spec) (from mid rest : List Token) → IsSpec from s mid → IsSpecs mid ss rest → IsSpecs from (s ∷ ss) rest

-- [ VALUE names ";" ]
pub data IsValues : List Token → List Named → List Token → Type 0 where
  nothing : (rest : List Token) → IsValues rest [] rest
  values : (t u : Token) (ns : List Named) (from rest : List Token) →
      IsWord reserved.Value t → IsNames from ns (u ∷ rest) → IsSymbol symbols.Semicolon u → IsValues (t ∷ from) ns rest

-- [ type ] PROCEDURE name ";" | [ type ] PROCEDURE name "(" names ")" ";" [ VALUE names ";" ] spec { spec }
pub data IsHeading : List Token → Heading → List Token → Type 0 where
  without : (t u v : Token) (kind : Option Kind) (n : Named) (from rest : List Token) →
      IsTyped from kind (t ∷ u ∷ v ∷ rest) → IsWord reserved.Procedure t → IsName n u → IsSymbol symbols.Semicolon v →
      IsHeading from (record { kind = kind; name = n; params = []; values = []; specs = [] }) rest
  with_params : (t u v w x : Token) (kind : Option Kind) (n : Named) (params values : List Named) (ss : List Spec) (from names mid after rest : List Token) →
      IsTyped from kind (t ∷ u ∷ v ∷ names) → IsWord reserved.Procedure t → IsName n u → IsSymbol symbols.OpenRound v →
      IsNames names params (w ∷ x ∷ mid) → IsSymbol symbols.CloseRound w → IsSymbol symbols.Semicolon x →
      IsValues mid values after → IsSpecs after ss rest →
      IsHeading from (record { kind = kind; name = n; params = params; values = values; specs = ss }) rest
