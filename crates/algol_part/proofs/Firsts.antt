-- What the first token is to what is due.
use Rattle.std.proofs.Common.{◌≡◌, ℕ, ℤ, pos, ◌-ℤ◌, Bool, true, false, List, [], ◌∷◌, ◌++◌, Some, None, codes as codes_of, refl, sym, ap, ◌∙◌}
use Rattle.algol_tree.specs.declared.token.Spot.{Spot}
use Rattle.algol_tree.specs.declared.token.Token.{Token}
use Rattle.algol_tree.specs.declared.token.TokenKind.{TokenKind}
use Rattle.algol_tree.specs.declared.token.TokenKind.TheVariants as kinds
use Rattle.algol_tree.specs.declared.token.Reserved.TheVariants as reserved
use Rattle.algol_tree.specs.declared.token.Symbol.TheVariants as symbols
use Rattle.algol_tree.specs.declared.tree.Named.{Named}
use Rattle.algol_tree.specs.declared.tree.Kind.{Kind}
use Rattle.algol_tree.specs.declared.tree.PhraseText.{PhraseText}
use Rattle.algol_tree.specs.Plain.{none}
use Rattle.algol_tree.specs.Tokens.{is_word, is_symbol, name_in}
use Rattle.algol_tree.specs.Statements.{phrase_of}
use Rattle.algol_tree.specs.Due as due
use Rattle.algol_tree.specs.Due.{Make, value_put, many, name_is, names, low, place, task, Due, make, symbol, spelled, whole, named, plain, takes, makes, skips, refuses, Turn, either, optional}
use Rattle.algol_tree.specs.DueExpr.{list_made}
use Rattle.algol_tree.specs.DueDecl.{name_added, low_added, names_in_list, turn_named, turn_literal, turn_negated}
use Rattle.algol_tree.specs.DueStmt.{wholes_in, pair_in, segment_in, phrase_added, with_task}
use Rattle.algol_tree.specs.Reading.{reading_turn}
use Rattle.algol_expr.proofs.Turns.{symbol_from}
use Rattle.algol_expr.proofs.Starts.{name_is as name_of}

-- what is due by a test of the token

module _ (s : Due) (test : TokenKind → Bool) (es : List Due) (other : Turn) (is : (spot : Spot) (k : TokenKind) → reading_turn s spot k ≡ either (test k) (takes plain es) other)
    {tokens : List Token} {t : Token} {ts : List Token} (at_ : tokens ≡ t ∷ ts) where
  pub on : test t.kind ≡ true → reading_turn s t.spot t.kind ≡ takes plain es
  on e = is t.spot t.kind ∙ ap (λ b. either b (takes plain es) other) e

  pub off : test t.kind ≡ false → reading_turn s t.spot t.kind ≡ other
  off e = is t.spot t.kind ∙ ap (λ b. either b (takes plain es) other) e

-- after a comma

abbrev pub more_names : List Due
more_names = named ∷ make name_added ∷ due.names_more ∷ []

abbrev pub more_files : List Due
more_files = named ∷ make name_added ∷ due.printer_part ∷ due.files_more ∷ []

abbrev pub more_lows : List Due
more_lows = due.literal ∷ make low_added ∷ []

abbrev pub more_wholes : List Due
more_wholes = whole 0 ∷ make list_made ∷ due.wholes_more ∷ []

abbrev pub more_phrases : List Due
more_phrases = due.phrase ∷ due.phrases_more ∷ []

abbrev pub printer : List Due
printer = spelled (codes_of "KIND") ∷ symbol symbols.Equal ∷ spelled (codes_of "PRINTER") ∷ symbol symbols.CloseRound ∷ []

abbrev is_comma : TokenKind → Bool
is_comma = is_symbol symbols.Comma

pub names_on : {tokens : List Token} {t : Token} {ts : List Token} → tokens ≡ t ∷ ts → is_symbol symbols.Comma t.kind ≡ true → reading_turn due.names_more t.spot t.kind ≡ takes plain more_names
names_on at_ = on due.names_more is_comma more_names skips (λ spot k. refl) at_

pub names_off : {tokens : List Token} {t : Token} {ts : List Token} → tokens ≡ t ∷ ts → is_symbol symbols.Comma t.kind ≡ false → reading_turn due.names_more t.spot t.kind ≡ skips
names_off at_ = off due.names_more is_comma more_names skips (λ spot k. refl) at_

pub files_on : {tokens : List Token} {t : Token} {ts : List Token} → tokens ≡ t ∷ ts → is_symbol symbols.Comma t.kind ≡ true → reading_turn due.files_more t.spot t.kind ≡ takes plain more_files
files_on at_ = on due.files_more is_comma more_files skips (λ spot k. refl) at_

pub files_off : {tokens : List Token} {t : Token} {ts : List Token} → tokens ≡ t ∷ ts → is_symbol symbols.Comma t.kind ≡ false → reading_turn due.files_more t.spot t.kind ≡ skips
files_off at_ = off due.files_more is_comma more_files skips (λ spot k. refl) at_

pub printer_on : {tokens : List Token} {t : Token} {ts : List Token} → tokens ≡ t ∷ ts → is_symbol symbols.OpenRound t.kind ≡ true → reading_turn due.printer_part t.spot t.kind ≡ takes plain printer
printer_on at_ = on due.printer_part (is_symbol symbols.OpenRound) printer skips (λ spot k. refl) at_

pub printer_off : {tokens : List Token} {t : Token} {ts : List Token} → tokens ≡ t ∷ ts → is_symbol symbols.OpenRound t.kind ≡ false → reading_turn due.printer_part t.spot t.kind ≡ skips
printer_off at_ = off due.printer_part (is_symbol symbols.OpenRound) printer skips (λ spot k. refl) at_

pub lows_on : {tokens : List Token} {t : Token} {ts : List Token} → tokens ≡ t ∷ ts → is_symbol symbols.Comma t.kind ≡ true → reading_turn due.lows_more t.spot t.kind ≡ takes plain more_lows
lows_on at_ = on due.lows_more is_comma more_lows skips (λ spot k. refl) at_

pub lows_off : {tokens : List Token} {t : Token} {ts : List Token} → tokens ≡ t ∷ ts → is_symbol symbols.Comma t.kind ≡ false → reading_turn due.lows_more t.spot t.kind ≡ skips
lows_off at_ = off due.lows_more is_comma more_lows skips (λ spot k. refl) at_

pub wholes_on : {tokens : List Token} {t : Token} {ts : List Token} → tokens ≡ t ∷ ts → is_symbol symbols.Comma t.kind ≡ true → reading_turn due.wholes_more t.spot t.kind ≡ takes plain more_wholes
wholes_on at_ = on due.wholes_more is_comma more_wholes skips (λ spot k. refl) at_

pub wholes_off : {tokens : List Token} {t : Token} {ts : List Token} → tokens ≡ t ∷ ts → is_symbol symbols.Comma t.kind ≡ false → reading_turn due.wholes_more t.spot t.kind ≡ skips
wholes_off at_ = off due.wholes_more is_comma more_wholes skips (λ spot k. refl) at_

pub pairs_on : {tokens : List Token} {t : Token} {ts : List Token} → tokens ≡ t ∷ ts → is_symbol symbols.Comma t.kind ≡ true → reading_turn due.pairs_more t.spot t.kind ≡ takes plain pair_in
pairs_on at_ = on due.pairs_more is_comma pair_in skips (λ spot k. refl) at_

pub pairs_off : {tokens : List Token} {t : Token} {ts : List Token} → tokens ≡ t ∷ ts → is_symbol symbols.Comma t.kind ≡ false → reading_turn due.pairs_more t.spot t.kind ≡ skips
pairs_off at_ = off due.pairs_more is_comma pair_in skips (λ spot k. refl) at_

pub segments_on : (kind : Kind) {tokens : List Token} {t : Token} {ts : List Token} → tokens ≡ t ∷ ts → is_symbol symbols.Comma t.kind ≡ true → reading_turn (due.segments_more kind) t.spot t.kind ≡ takes plain (segment_in kind)
segments_on kind at_ = on (due.segments_more kind) is_comma (segment_in kind) skips (λ spot k. refl) at_

pub segments_off : (kind : Kind) {tokens : List Token} {t : Token} {ts : List Token} → tokens ≡ t ∷ ts → is_symbol symbols.Comma t.kind ≡ false → reading_turn (due.segments_more kind) t.spot t.kind ≡ skips
segments_off kind at_ = off (due.segments_more kind) is_comma (segment_in kind) skips (λ spot k. refl) at_

pub phrases_on : {tokens : List Token} {t : Token} {ts : List Token} → tokens ≡ t ∷ ts → is_symbol symbols.Comma t.kind ≡ true → reading_turn due.phrases_more t.spot t.kind ≡ takes plain more_phrases
phrases_on at_ = on due.phrases_more is_comma more_phrases skips (λ spot k. refl) at_

pub phrases_off : {tokens : List Token} {t : Token} {ts : List Token} → tokens ≡ t ∷ ts → is_symbol symbols.Comma t.kind ≡ false → reading_turn due.phrases_more t.spot t.kind ≡ skips
phrases_off at_ = off due.phrases_more is_comma more_phrases skips (λ spot k. refl) at_

-- what may be left out

abbrev pub actuals : List Due
actuals = wholes_in ++ symbol symbols.CloseRound ∷ []

pub actuals_on : {tokens : List Token} {t : Token} {ts : List Token} → tokens ≡ t ∷ ts → is_symbol symbols.OpenRound t.kind ≡ true → reading_turn due.actuals_part t.spot t.kind ≡ takes plain actuals
actuals_on at_ = on due.actuals_part (is_symbol symbols.OpenRound) actuals (makes (value_put (many none))) (λ spot k. refl) at_

pub actuals_off : {tokens : List Token} {t : Token} {ts : List Token} → tokens ≡ t ∷ ts → is_symbol symbols.OpenRound t.kind ≡ false → reading_turn due.actuals_part t.spot t.kind ≡ makes (value_put (many none))
actuals_off at_ = off due.actuals_part (is_symbol symbols.OpenRound) actuals (makes (value_put (many none))) (λ spot k. refl) at_

pub items_on : {tokens : List Token} {t : Token} {ts : List Token} → tokens ≡ t ∷ ts → is_symbol symbols.Comma t.kind ≡ true → reading_turn due.items_part t.spot t.kind ≡ takes plain wholes_in
items_on at_ = on due.items_part is_comma wholes_in (makes (value_put (many none))) (λ spot k. refl) at_

pub items_off : {tokens : List Token} {t : Token} {ts : List Token} → tokens ≡ t ∷ ts → is_symbol symbols.Comma t.kind ≡ false → reading_turn due.items_part t.spot t.kind ≡ makes (value_put (many none))
items_off at_ = off due.items_part is_comma wholes_in (makes (value_put (many none))) (λ spot k. refl) at_

abbrev pub task_of : List Due
task_of = named ∷ make with_task ∷ symbol symbols.CloseSquare ∷ []

pub task_on : {tokens : List Token} {t : Token} {ts : List Token} → tokens ≡ t ∷ ts → is_symbol symbols.OpenSquare t.kind ≡ true → reading_turn due.task_part t.spot t.kind ≡ takes plain task_of
task_on at_ = on due.task_part (is_symbol symbols.OpenSquare) task_of (makes (value_put (task None))) (λ spot k. refl) at_

pub task_off : {tokens : List Token} {t : Token} {ts : List Token} → tokens ≡ t ∷ ts → is_symbol symbols.OpenSquare t.kind ≡ false → reading_turn due.task_part t.spot t.kind ≡ makes (value_put (task None))
task_off at_ = off due.task_part (is_symbol symbols.OpenSquare) task_of (makes (value_put (task None))) (λ spot k. refl) at_

pub to_on : {tokens : List Token} {t : Token} {ts : List Token} → tokens ≡ t ∷ ts → is_word reserved.To t.kind ≡ true → reading_turn due.to_part t.spot t.kind ≡ takes plain []
to_on at_ = on due.to_part (is_word reserved.To) [] skips (λ spot k. refl) at_

pub to_off : {tokens : List Token} {t : Token} {ts : List Token} → tokens ≡ t ∷ ts → is_word reserved.To t.kind ≡ false → reading_turn due.to_part t.spot t.kind ≡ skips
to_off at_ = off due.to_part (is_word reserved.To) [] skips (λ spot k. refl) at_

abbrev pub closed_values : List Due
closed_values = names_in_list ++ symbol symbols.Semicolon ∷ []

pub values_on : {tokens : List Token} {t : Token} {ts : List Token} → tokens ≡ t ∷ ts → is_word reserved.Value t.kind ≡ true → reading_turn due.values_part t.spot t.kind ≡ takes plain closed_values
values_on at_ = on due.values_part (is_word reserved.Value) closed_values (makes (value_put (names []))) (λ spot k. refl) at_

pub values_off : {tokens : List Token} {t : Token} {ts : List Token} → tokens ≡ t ∷ ts → is_word reserved.Value t.kind ≡ false → reading_turn due.values_part t.spot t.kind ≡ makes (value_put (names []))
values_off at_ = off due.values_part (is_word reserved.Value) closed_values (makes (value_put (names []))) (λ spot k. refl) at_

pub angle_on : {tokens : List Token} {t : Token} {ts : List Token} → tokens ≡ t ∷ ts → is_symbol symbols.Less t.kind ≡ true → reading_turn due.angle t.spot t.kind ≡ takes plain (make (value_put (place t.spot)) ∷ [])
angle_on {t = t} at_ e = ap (λ b. either b (takes plain (make (value_put (place t.spot)) ∷ [])) refuses) e

pub angle_off : {tokens : List Token} {t : Token} {ts : List Token} → tokens ≡ t ∷ ts → is_symbol symbols.Less t.kind ≡ false → reading_turn due.angle t.spot t.kind ≡ refuses
angle_off {t = t} at_ e = ap (λ b. either b (takes plain (make (value_put (place t.spot)) ∷ [])) refuses) e

-- names

pub named_takes : {tokens : List Token} {t : Token} {ts : List Token} → tokens ≡ t ∷ ts → (n : Named) (name : List ℕ) → name_in t.kind ≡ Some name → (n.name ≡ name) × (n.spot ≡ t.spot) →
    reading_turn named t.spot t.kind ≡ takes plain (make (value_put (name_is n)) ∷ [])
named_takes {t = t} at_ n name e same = ap (turn_named t.spot) (name_of t.kind name e ∙ ap kinds.Name (sym same.0))
    ∙ ap (λ spot. takes plain (make (value_put (name_is (record { name = n.name; spot = spot }))) ∷ [])) (sym same.1)

named_refused : (spot : Spot) (k : TokenKind) → name_in k ≡ None → reading_turn named spot k ≡ refuses
named_refused spot (kinds.Name name) e = cc
named_refused spot k e = refl

pub not_end_name : (k : TokenKind) (name : List ℕ) → name_in k ≡ Some name → k ≡ kinds.End → ⊥
not_end_name k name e q = let no : kinds.Name name ≡ kinds.End = sym (name_of k name e) ∙ q in cc

-- numbers

literal_refused : (spot : Spot) (k : TokenKind) → is_symbol symbols.Minus k ≡ false → ((z : ℤ) → k ≡ kinds.Number z → ⊥) → reading_turn due.literal spot k ≡ refuses
literal_refused spot (kinds.Number z) e f = absurd (f z refl)
literal_refused spot (kinds.Symbol symbols.Minus) e f = cc
literal_refused spot k e f = refl

negated_refused : (spot : Spot) (k : TokenKind) → ((z : ℤ) → k ≡ kinds.Number z → ⊥) → reading_turn due.number_negated spot k ≡ refuses
negated_refused spot (kinds.Number z) f = absurd (f z refl)
negated_refused spot k f = refl

-- phrases

pub phrase_takes : {tokens : List Token} {t : Token} {ts : List Token} → tokens ≡ t ∷ ts → (p : PhraseText) → phrase_of t.kind ≡ Some p → reading_turn due.phrase t.spot t.kind ≡ takes plain (make (phrase_added p) ∷ [])
phrase_takes at_ p e = ap (λ o. optional o (λ p. make (phrase_added p) ∷ []) refuses) e

phrase_refused : (spot : Spot) (k : TokenKind) → phrase_of k ≡ None → reading_turn due.phrase spot k ≡ refuses
phrase_refused spot k e = ap (λ o. optional o (λ p. make (phrase_added p) ∷ []) refuses) e

pub not_end_phrase : (k : TokenKind) (p : PhraseText) → phrase_of k ≡ Some p → k ≡ kinds.End → ⊥
not_end_phrase k p e q = let no : None ≡ Some p = sym (ap phrase_of q) ∙ e in cc

-- where it is none of them

pub named_refuses : {tokens : List Token} {t : Token} {ts : List Token} → tokens ≡ t ∷ ts → name_in t.kind ≡ None → reading_turn named t.spot t.kind ≡ refuses
named_refuses {t = t} at_ e = named_refused t.spot t.kind e

pub literal_refuses : {tokens : List Token} {t : Token} {ts : List Token} → tokens ≡ t ∷ ts → is_symbol symbols.Minus t.kind ≡ false → ((z : ℤ) → t.kind ≡ kinds.Number z → ⊥) → reading_turn due.literal t.spot t.kind ≡ refuses
literal_refuses {t = t} at_ e f = literal_refused t.spot t.kind e f

pub negated_refuses : {tokens : List Token} {t : Token} {ts : List Token} → tokens ≡ t ∷ ts → ((z : ℤ) → t.kind ≡ kinds.Number z → ⊥) → reading_turn due.number_negated t.spot t.kind ≡ refuses
negated_refuses {t = t} at_ f = negated_refused t.spot t.kind f

pub phrase_refuses : {tokens : List Token} {t : Token} {ts : List Token} → tokens ≡ t ∷ ts → phrase_of t.kind ≡ None → reading_turn due.phrase t.spot t.kind ≡ refuses
phrase_refuses {t = t} at_ e = phrase_refused t.spot t.kind e

-- a number

pub minus_takes : {tokens : List Token} {t : Token} {ts : List Token} → tokens ≡ t ∷ ts → is_symbol symbols.Minus t.kind ≡ true → reading_turn due.literal t.spot t.kind ≡ takes plain (due.number_negated ∷ [])
minus_takes {t = t} at_ e = ap (turn_literal) (symbol_from t.kind symbols.Minus e)

pub number_takes : {tokens : List Token} {t : Token} {ts : List Token} → tokens ≡ t ∷ ts → (z : ℤ) → t.kind ≡ kinds.Number z → reading_turn due.literal t.spot t.kind ≡ takes plain (make (value_put (low z)) ∷ [])
number_takes {t = t} at_ z e = ap turn_literal e

pub negated_takes : {tokens : List Token} {t : Token} {ts : List Token} → tokens ≡ t ∷ ts → (z : ℤ) → t.kind ≡ kinds.Number z → reading_turn due.number_negated t.spot t.kind ≡ takes plain (make (value_put (low (pos 0 -ℤ z))) ∷ [])
negated_takes {t = t} at_ z e = ap turn_negated e

pub not_end_number : (k : TokenKind) (z : ℤ) → k ≡ kinds.Number z → k ≡ kinds.End → ⊥
not_end_number k z e q = let no : kinds.Number z ≡ kinds.End = sym e ∙ q in cc
