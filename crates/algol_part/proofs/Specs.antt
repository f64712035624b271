-- The first token of a specification, of a heading and of what stands after a type.
use Rattle.std.proofs.Common.{◌≡◌, ℕ, Bool, true, false, ◌||◌, List, [], ◌∷◌, ◌++◌, Option, Some, None, refl, sym, subst, ap, ◌∙◌}
use Rattle.algol_tree.specs.declared.token.Spot.{Spot}
use Rattle.algol_tree.specs.declared.token.Token.{Token}
use Rattle.algol_tree.specs.declared.token.TokenKind.{TokenKind}
use Rattle.algol_tree.specs.declared.token.TokenKind.TheVariants as kinds
use Rattle.algol_tree.specs.declared.token.Reserved.TheVariants as reserved
use Rattle.algol_tree.specs.declared.token.Symbol.TheVariants as symbols
use Rattle.algol_tree.specs.declared.tree.Kind.{Kind}
use Rattle.algol_tree.specs.declared.tree.Kind.TheVariants as types
use Rattle.algol_tree.specs.Tokens.{is_word, is_symbol, name_in}
use Rattle.algol_tree.specs.Headings.{type_of}
use Rattle.algol_tree.specs.Due as due
use Rattle.algol_tree.specs.Due.{Value, value_put, names, Due, make, symbol, named, names_more, plain, takes, skips, refuses, Turn, followed, either, optional}
use Rattle.algol_tree.specs.DueDecl.{headed, name_added, names_in_list, rows_specified, spec_simple, spec_events, turn_spec, turn_spec_typed}
use Rattle.algol_tree.specs.Reading.{reading_turn, outside, read}
use Rattle.algol_expr.proofs.Turns.{word_from, symbol_from, takes_step, make_step, fails_step}
use Rattle.algol_expr.proofs.Reading.{Takes, taken, refused_, read_at}
use Rattle.algol_expr.proofs.Chain.{Reaches}
use Rattle.algol_part.specs.Phrases.{closed_names, parameters_in_phrase, is_type, begins_spec}

-- a specification

pub spec_kind : {tokens : List Token} {t : Token} {ts : List Token} → tokens ≡ t ∷ ts → (kind : Kind) → type_of t.kind ≡ Some kind →
    reading_turn due.spec t.spot t.kind ≡ takes plain (due.spec_typed kind ∷ [])
spec_kind {t = t} at_ kind e = ap (λ o. optional o (λ kind. due.spec_typed kind ∷ [])
    (either (is_word reserved.Event t.kind) (takes plain (names_in_list ++ symbol symbols.Semicolon ∷ make spec_events ∷ []))
    (either (is_word reserved.Array t.kind) (takes plain (rows_specified types.Number)) refuses))) e

pub not_end_type : (k : TokenKind) (kind : Kind) → type_of k ≡ Some kind → k ≡ kinds.End → ⊥
not_end_type k kind e q = let no : None ≡ Some kind = sym (ap type_of q) ∙ e in cc

abbrev pub spec_of_events : List Due
spec_of_events = names_in_list ++ symbol symbols.Semicolon ∷ make spec_events ∷ []

pub spec_event : {tokens : List Token} {t : Token} {ts : List Token} → tokens ≡ t ∷ ts → is_word reserved.Event t.kind ≡ true →
    reading_turn due.spec t.spot t.kind ≡ takes plain spec_of_events
spec_event {t = t} at_ e = ap (λ k. turn_spec k refuses) (word_from t.kind reserved.Event e)

pub spec_array : {tokens : List Token} {t : Token} {ts : List Token} → tokens ≡ t ∷ ts → is_word reserved.Array t.kind ≡ true →
    reading_turn due.spec t.spot t.kind ≡ takes plain (rows_specified types.Number)
spec_array {t = t} at_ e = ap (λ k. turn_spec k refuses) (word_from t.kind reserved.Array e)

module _ (x y : List Due) where
  abbrev of_tests : Option Kind → Bool → Bool → Turn → Turn
  of_tests o a b otherwise = optional o (λ kind. due.spec_typed kind ∷ []) (either a (takes plain x) (either b (takes plain y) otherwise))

  no_test : (o : Option Kind) (a b : Bool) (otherwise : Turn) → o ≡ None → a ≡ false → b ≡ false → of_tests o a b otherwise ≡ otherwise
  no_test None false false otherwise p q r = refl
  no_test None false true otherwise p q r = cc
  no_test None true b otherwise p q r = cc
  no_test (Some kind) a b otherwise p q r = cc

  some_test : (o : Option Kind) (a b : Bool) (one other : Turn) → (is_type o || (a || b)) ≡ true → of_tests o a b one ≡ of_tests o a b other
  some_test (Some kind) a b one other e = refl
  some_test None true b one other e = refl
  some_test None false true one other e = refl
  some_test None false false one other e = cc

  none_of : (o : Option Kind) (a b : Bool) (otherwise : Turn) → (is_type o || (a || b)) ≡ false → of_tests o a b otherwise ≡ otherwise
  none_of None false false otherwise e = refl
  none_of None false true otherwise e = cc
  none_of None true b otherwise e = cc
  none_of (Some kind) a b otherwise e = cc

  tests_take : (o : Option Kind) (a b : Bool) → Takes (of_tests o a b refuses)
  tests_take (Some kind) a b = taken plain (due.spec_typed kind ∷ [])
  tests_take None true b = taken plain x
  tests_take None false true = taken plain y
  tests_take None false false = refused_

pub spec_refuses : {tokens : List Token} {t : Token} {ts : List Token} → tokens ≡ t ∷ ts → type_of t.kind ≡ None → is_word reserved.Event t.kind ≡ false →
    is_word reserved.Array t.kind ≡ false → reading_turn due.spec t.spot t.kind ≡ refuses
spec_refuses {t = t} at_ p q r = no_test spec_of_events (rows_specified types.Number) (type_of t.kind) (is_word reserved.Event t.kind) (is_word reserved.Array t.kind) refuses p q r

-- one specification more

pub specs_off : {tokens : List Token} {t : Token} {ts : List Token} → tokens ≡ t ∷ ts → begins_spec t.kind ≡ false → reading_turn due.specs_more t.spot t.kind ≡ skips
specs_off {t = t} at_ e = ap (λ x. followed x (due.specs_more ∷ []))
    (none_of spec_of_events (rows_specified types.Number) (type_of t.kind) (is_word reserved.Event t.kind) (is_word reserved.Array t.kind) skips e)

pub specs_on : {us : List Value} {tokens : List Token} {t : Token} {ts : List Token} → tokens ≡ t ∷ ts → begins_spec t.kind ≡ true →
    Reaches (due.specs_more ∷ []) us tokens (due.spec ∷ due.specs_more ∷ []) us tokens
specs_on {us = us} {t = t} {ts = ts} at_ e = subst (λ x. Reaches (due.specs_more ∷ []) us x (due.spec ∷ due.specs_more ∷ []) us x) (sym at_) (record {
  run = λ due_ vs. read_at 0 outside due.specs_more due.spec (due.specs_more ∷ []) due_ t ts (us ++ vs)
      (tests_take spec_of_events (rows_specified types.Number) (type_of t.kind) (is_word reserved.Event t.kind) (is_word reserved.Array t.kind))
      (ap (λ x. followed x (due.specs_more ∷ []))
      (some_test spec_of_events (rows_specified types.Number) (type_of t.kind) (is_word reserved.Event t.kind) (is_word reserved.Array t.kind) skips refuses e));
})

-- names that stand where something else may

module _ (s : Due) (ds : List Due) (t : Token) (ts : List Token)
    (named_so : (name : List ℕ) → t.kind ≡ kinds.Name name → reading_turn s t.spot t.kind ≡ takes plain (make (value_put (names (record { name = name; spot = t.spot } ∷ []))) ∷ names_more ∷ ds))
    (else_none : name_in t.kind ≡ None → reading_turn s t.spot t.kind ≡ refuses) where
  names_at : (due_ : List Due) (vs : List Value) (k : TokenKind) → t.kind ≡ k → read 0 (t ∷ ts) (s ∷ due_) vs ≡ read 0 (t ∷ ts) (names_in_list ++ (ds ++ due_)) vs
  names_at due_ vs (kinds.Name name) e =
      takes_step 0 t ts s (make (value_put (names (record { name = name; spot = t.spot } ∷ []))) ∷ names_more ∷ ds) due_ vs (named_so name e)
      ∙ make_step 0 ts (value_put (names (record { name = name; spot = t.spot } ∷ []))) (names_more ∷ (ds ++ due_)) vs
      ∙ sym (make_step 0 (t ∷ ts) (value_put (names [])) (named ∷ make name_added ∷ names_more ∷ (ds ++ due_)) vs
      ∙ takes_step 0 t ts named (make (value_put (due.name_is (record { name = name; spot = t.spot }))) ∷ []) (make name_added ∷ names_more ∷ (ds ++ due_)) (names [] ∷ vs) (ap (reading_turn named t.spot) e)
      ∙ make_step 0 ts (value_put (due.name_is (record { name = name; spot = t.spot }))) (make name_added ∷ names_more ∷ (ds ++ due_)) (names [] ∷ vs)
      ∙ make_step 0 ts name_added (names_more ∷ (ds ++ due_)) (due.name_is (record { name = name; spot = t.spot }) ∷ names [] ∷ vs))
  names_at due_ vs k e = fails_step 0 t ts s due_ vs (else_none (ap name_in e ∙ refl))
      ∙ sym (make_step 0 (t ∷ ts) (value_put (names [])) (named ∷ make name_added ∷ names_more ∷ (ds ++ due_)) vs
      ∙ fails_step 0 t ts named (make name_added ∷ names_more ∷ (ds ++ due_)) (names [] ∷ vs) (ap (reading_turn named t.spot) e))

  pub names_there : (us : List Value) → Reaches (s ∷ []) us (t ∷ ts) (names_in_list ++ ds) us (t ∷ ts)
  names_there us = record { run = λ due_ vs. names_at due_ (us ++ vs) t.kind refl }

pub typed_array : {tokens : List Token} {t : Token} {ts : List Token} → tokens ≡ t ∷ ts → (kind : Kind) → is_word reserved.Array t.kind ≡ true →
    reading_turn (due.spec_typed kind) t.spot t.kind ≡ takes plain (rows_specified kind)
typed_array {t = t} at_ kind e = ap (turn_spec_typed kind t.spot) (word_from t.kind reserved.Array e)

typed_refused : (kind : Kind) (spot : Spot) (k : TokenKind) → is_word reserved.Array k ≡ false → name_in k ≡ None → turn_spec_typed kind spot k ≡ refuses
typed_refused kind spot (kinds.Name name) e f = cc
typed_refused kind spot (kinds.Word reserved.Array) e f = cc
typed_refused kind spot k e f = refl

pub typed_names : (us : List Value) {tokens : List Token} {t : Token} {ts : List Token} → tokens ≡ t ∷ ts → (kind : Kind) → is_word reserved.Array t.kind ≡ false →
    Reaches (due.spec_typed kind ∷ []) us tokens (closed_names ++ make (spec_simple kind) ∷ []) us tokens
typed_names us {t = t} {ts = ts} at_ kind e = subst (λ x. Reaches (due.spec_typed kind ∷ []) us x (closed_names ++ make (spec_simple kind) ∷ []) us x) (sym at_)
    (names_there (due.spec_typed kind) (symbol symbols.Semicolon ∷ make (spec_simple kind) ∷ []) t ts (λ name q. ap (turn_spec_typed kind t.spot) q)
    (λ q. typed_refused kind t.spot t.kind e q) us)

-- after the name of a procedure

pub heading_bare : {tokens : List Token} {t : Token} {ts : List Token} → tokens ≡ t ∷ ts → (kind : Option Kind) → is_symbol symbols.Semicolon t.kind ≡ true →
    reading_turn (due.behind_procedure kind) t.spot t.kind ≡ takes plain (make (headed kind) ∷ [])
heading_bare {t = t} at_ kind e = ap (λ b. either b (takes plain (make (headed kind) ∷ [])) (either (is_symbol symbols.OpenRound t.kind) (takes plain (parameters_in_phrase kind)) refuses)) e

pub heading_round : {tokens : List Token} {t : Token} {ts : List Token} → tokens ≡ t ∷ ts → (kind : Option Kind) → is_symbol symbols.OpenRound t.kind ≡ true →
    reading_turn (due.behind_procedure kind) t.spot t.kind ≡ takes plain (parameters_in_phrase kind)
heading_round {t = t} at_ kind e = ap (reading_turn (due.behind_procedure kind) t.spot) (symbol_from t.kind symbols.OpenRound e)

pub heading_refuses : {tokens : List Token} {t : Token} {ts : List Token} → tokens ≡ t ∷ ts → (kind : Option Kind) → is_symbol symbols.Semicolon t.kind ≡ false →
    is_symbol symbols.OpenRound t.kind ≡ false → reading_turn (due.behind_procedure kind) t.spot t.kind ≡ refuses
heading_refuses {t = t} at_ kind e f = ap (λ b. either b (takes plain (make (headed kind) ∷ [])) (either (is_symbol symbols.OpenRound t.kind) (takes plain (parameters_in_phrase kind)) refuses)) e
    ∙ ap (λ b. either b (takes plain (parameters_in_phrase kind)) refuses) f
