-- What the tokens of statements, specifications and headings begin with.
use Rattle.std.proofs.Common.{◌≡◌, ◌⊎◌, ℕ, Bool, true, false, not, List, [], ◌∷◌, Option, Some, refl, ap, ◌∙◌, inl, inr}
use Rattle.algol_tree.specs.declared.token.Spot.{Spot}
use Rattle.algol_tree.specs.declared.token.Token.{Token}
use Rattle.algol_tree.specs.declared.token.TokenKind.{TokenKind}
use Rattle.algol_tree.specs.declared.token.TokenKind.TheVariants as kinds
use Rattle.algol_tree.specs.declared.token.Reserved.TheVariants as reserved
use Rattle.algol_tree.specs.declared.token.Symbol.TheVariants as symbols
use Rattle.algol_tree.specs.declared.tree.Kind.{Kind}
use Rattle.b67_deeds.specs.declared.EventAct.{EventAct}
use Rattle.algol_tree.specs.declared.tree.Spec.{Spec}
use Rattle.algol_tree.specs.Plain.{PStmt, empty}
use Rattle.algol_tree.specs.Tokens.{IsWord, is_word}
use Rattle.algol_tree.specs.Expressions.{TokenOpens}
use Rattle.algol_tree.specs.Headings as headings
use Rattle.algol_tree.specs.Headings.{type_of, IsSpec, IsSpecs, IsTyped}
use Rattle.algol_tree.specs.Statements as grammar
use Rattle.algol_tree.specs.Statements.{act_of, IsStmt}
use Rattle.algol_tree.specs.Due.{Due, make, symbol, event, Limit, plain, nests, Turn, takes, refuses, optional}
use Rattle.algol_tree.specs.DueStmt.{acting, turn_word, turn_start}
use Rattle.algol_grammar.proofs.Optional.{NotFirst}
use Rattle.algol_grammar.proofs.Headings.{no_spec}

-- a limit that a statement's first token has to keep where d levels are open
pub data IsOwn (free d : ℕ) (from : List Token) : Limit → Type 0 where
  nothing_opened : IsOwn free d from plain
  level_opened : TokenOpens free d from → IsOwn free d from (nests d)

-- the token begins a statement that is not empty
pub record Begins (free d : ℕ) (t : Token) (ts : List Token) : Type 0 where
  pub limit : Limit
  pub ds : List Due
  pub own : IsOwn free d (t ∷ ts) limit
  pub is : (x : Turn) → turn_start d t.spot t.kind x ≡ takes limit ds

pub data BeginsAt (free d : ℕ) : List Token → Type 0 where
  begins_at : (t : Token) (ts : List Token) → Begins free d t ts → BeginsAt free d (t ∷ ts)

by_word : (free d : ℕ) (t : Token) (ts : List Token) (k : TokenKind) (limit : Limit) (ds : List Due) → t.kind ≡ k → IsOwn free d (t ∷ ts) limit →
    ((x : Turn) → turn_start d t.spot k x ≡ takes limit ds) → BeginsAt free d (t ∷ ts)
by_word free d t ts k limit ds e own is = begins_at t ts (record { limit = limit; ds = ds; own = own; is = λ x. ap (λ k. turn_start d t.spot k x) e ∙ is x })

pub act_turn : (d : ℕ) (spot : Spot) (k : TokenKind) (act : EventAct) (x : Turn) → act_of k ≡ Some act →
    turn_start d spot k x ≡ takes plain (symbol symbols.OpenRound ∷ event ∷ symbol symbols.CloseRound ∷ make (acting act) ∷ [])
act_turn d spot (kinds.Name n) act x e = cc
act_turn d spot k act x e = ap (λ o. optional o (λ act. symbol symbols.OpenRound ∷ event ∷ symbol symbols.CloseRound ∷ make (acting act) ∷ []) (turn_word d spot k x)) e

-- a statement is empty, or its first token begins it
pub stmt_begins : (free d : ℕ) (from : List Token) (s : PStmt) (rest : List Token) → IsStmt free d from s rest → ((s ≡ empty) × (from ≡ rest)) ⊎ BeginsAt free d from
stmt_begins free d _ _ _ (grammar.nothing _ rest) = inl (refl, refl)
stmt_begins free d _ _ _ (grammar.labelled t u n _ s from rest k c o x) = inr (by_word free d t _ _ plain _ k.name nothing_opened (λ x. refl))
stmt_begins free d _ _ _ (grammar.assignment t u n es e _ from after rest k x c y) = inr (by_word free d t _ _ plain _ k.name nothing_opened (λ x. refl))
stmt_begins free d _ _ _ (grammar.calling t n es _ from rest k x) = inr (by_word free d t _ _ plain _ k.name nothing_opened (λ x. refl))
stmt_begins free d _ _ _ (grammar.going t u n _ from rest w x k) = inr (by_word free d t _ _ plain _ w nothing_opened (λ x. refl))
stmt_begins free d _ _ _ (grammar.compound t u _ b from rest w o x e) = inr (by_word free d t _ _ (nests d) _ w (level_opened o) (λ x. refl))
stmt_begins free d _ _ _ (grammar.one_armed t u c _ s from mid rest w o x h y) = inr (by_word free d t _ _ (nests d) _ w (level_opened o) (λ x. refl))
stmt_begins free d _ _ _ (grammar.two_armed t u v c _ a b from mid after rest w o x h y f e z) = inr (by_word free d t _ _ (nests d) _ w (level_opened o) (λ x. refl))
stmt_begins free d _ _ _ (grammar.looping t u c _ s from mid rest w o x h y) = inr (by_word free d t _ _ (nests d) _ w (level_opened o) (λ x. refl))
stmt_begins free d _ _ _ (grammar.repeating t u c _ s from mid rest w o x h y) = inr (by_word free d t _ _ (nests d) _ w (level_opened o) (λ x. refl))
stmt_begins free d _ _ _ (grammar.counting t u v w x y n a b c _ s from p q mid rest f o k e g h i j l m r) = inr (by_word free d t _ _ (nests d) _ f (level_opened o) (λ x. refl))
stmt_begins free d _ _ _ (grammar.so_often t u c _ s from mid rest w o x h y) = inr (by_word free d t _ _ (nests d) _ w (level_opened o) (λ x. refl))
stmt_begins free d _ _ _ (grammar.choosing t u v w c _ ss from mid rest k o x h i y j) = inr (by_word free d t _ _ (nests d) _ k (level_opened o) (λ x. refl))
stmt_begins free d _ _ _ (grammar.processing t u n es task _ from mid rest w k x y) = inr (by_word free d t _ _ plain _ w nothing_opened (λ x. refl))
stmt_begins free d _ _ _ (grammar.acting t u v act e _ from rest a o x c) =
    inr (begins_at t _ (record { limit = plain; ds = _; own = nothing_opened; is = λ x. act_turn d t.spot t.kind act x a }))
stmt_begins free d _ _ _ (grammar.writing t u v w x y z n ps es _ from mid rest k a b c e f g h i) = inr (by_word free d t _ _ plain _ k nothing_opened (λ x. refl))

-- a token that begins a declaration or a specification
abbrev pub begins_declaration : TokenKind → Bool
begins_declaration (kinds.Word reserved.Integer) = true
begins_declaration (kinds.Word reserved.Real) = true
begins_declaration (kinds.Word reserved.Boolean) = true
begins_declaration (kinds.Word reserved.File) = true
begins_declaration (kinds.Word reserved.Event) = true
begins_declaration (kinds.Word reserved.Task) = true
begins_declaration (kinds.Word reserved.Label) = true
begins_declaration (kinds.Word reserved.Array) = true
begins_declaration (kinds.Word reserved.Procedure) = true
begins_declaration k = false

-- begins no statement
pub no_declaration : (free d : ℕ) (t : Token) (ts : List Token) → Begins free d t ts → begins_declaration t.kind ≡ false
no_declaration free d t ts b = by_kind t.kind (b.is refuses)
  where
    by_kind : (k : TokenKind) → turn_start d t.spot k refuses ≡ takes b.limit b.ds → begins_declaration k ≡ false
    by_kind (kinds.Word reserved.Integer) e = cc
    by_kind (kinds.Word reserved.Real) e = cc
    by_kind (kinds.Word reserved.Boolean) e = cc
    by_kind (kinds.Word reserved.File) e = cc
    by_kind (kinds.Word reserved.Event) e = cc
    by_kind (kinds.Word reserved.Task) e = cc
    by_kind (kinds.Word reserved.Label) e = cc
    by_kind (kinds.Word reserved.Array) e = cc
    by_kind (kinds.Word reserved.Procedure) e = cc
    by_kind k e = refl

-- nor is it a specification's first, or FORWARD
pub no_specification : (k : TokenKind) → begins_declaration k ≡ false → not (no_spec k) ≡ false
no_specification (kinds.Word reserved.Integer) e = cc
no_specification (kinds.Word reserved.Real) e = cc
no_specification (kinds.Word reserved.Boolean) e = cc
no_specification (kinds.Word reserved.Event) e = cc
no_specification (kinds.Word reserved.Array) e = cc
no_specification k e = refl

-- VALUE begins no specification
type_no_value : (k : TokenKind) (kind : Kind) → type_of k ≡ Some kind → is_word reserved.Value k ≡ false
type_no_value (kinds.Word reserved.Integer) kind e = refl
type_no_value (kinds.Word reserved.Real) kind e = refl
type_no_value (kinds.Word reserved.Boolean) kind e = refl
type_no_value k kind e = cc

typed_no_value : (from : List Token) (kind : Option Kind) (t : Token) (ts : List Token) → IsTyped from kind (t ∷ ts) → IsWord reserved.Array t → NotFirst (is_word reserved.Value) from
typed_no_value _ _ t ts (headings.untyped _) a = ap (is_word reserved.Value) a
typed_no_value _ _ t ts (headings.typed h kind _ k) a = type_no_value h.kind kind k

spec_no_value : (from : List Token) (s : Spec) (rest : List Token) → IsSpec from s rest → NotFirst (is_word reserved.Value) from
spec_no_value _ _ _ (headings.simple t u kind ns from rest k x c) = type_no_value t.kind kind k
spec_no_value _ _ _ (headings.events t u ns from rest w x c) = ap (is_word reserved.Value) w
spec_no_value _ _ _ (headings.arrays t u v w kind ns lows from names mid rest x a y b z c e) = typed_no_value from kind t names x a

pub specs_no_value : (from : List Token) (ss : List Spec) (rest : List Token) → IsSpecs from ss rest → NotFirst (is_word reserved.Value) from
specs_no_value from _ _ (headings.last s _ rest x) = spec_no_value from s rest x
specs_no_value from _ _ (headings.on s ss _ mid rest x y) = spec_no_value from s mid x
