-- What is due turns into what is due of the same: only an expression that stands in no other begins one.
use Rattle.std.proofs.Common.{◌≡◌, ◌+◌, ℕ, Bool, true, false, List, [], ◌∷◌, Option, Some, None, refl}
use Rattle.algol_tree.specs.declared.token.Spot.{Spot}
use Rattle.algol_tree.specs.declared.token.TokenKind.{TokenKind}
use Rattle.algol_tree.specs.declared.token.TokenKind.TheVariants as kinds
use Rattle.algol_tree.specs.declared.token.Reserved.TheVariants as reserved
use Rattle.algol_tree.specs.declared.token.Symbol.TheVariants as symbols
use Rattle.algol_tree.specs.declared.tree.Named.{Named}
use Rattle.algol_tree.specs.declared.tree.Kind.{Kind}
use Rattle.algol_tree.specs.declared.tree.PhraseText.{PhraseText}
use Rattle.algol_tree.specs.Plain as trees
use Rattle.algol_tree.specs.Tokens.{is_word, is_symbol}
use Rattle.algol_tree.specs.Headings.{type_of}
use Rattle.algol_tree.specs.Statements.{phrase_of}
use Rattle.algol_tree.specs.Due.{stmt, value_put, Due, make, word, symbol, spelled, part, more_of, relation, behind_name, exprs_more, opening, event, events_more, behind_event, whole, whole_ends, named, names_more, printer_part, files_more, literal, number_negated, lows_more, values_part, spec, spec_typed, specs_more, behind_procedure, wholes_more, actuals_part, items_part, pairs_more, segments_more, task_part, to_part, angle, phrase, phrases_more, statement, behind_start, else_part, stmts_more, declarations, typed, procedure_body, program, plain, nests, label, begun, Turn, takes, makes, skips, closes, refuses, followed, either, optional}
use Rattle.algol_tree.specs.DueDecl.{turn_named, turn_literal, turn_negated, turn_spec, turn_spec_typed}
use Rattle.algol_tree.specs.DueStmt.{with_body, turn_start, turn_behind_start, turn_typed, turn_declaration, turn_entered, turn_procedure_body}
use Rattle.algol_tree.specs.Reading.{reading_turn}
use Rattle.algol_expr.proofs.Inner.{IsInner, Inners, Stays, inner_stays}
use Rattle.algol_grammar.proofs.SoundDue.{is_outer, all_outer, outer_append}
use Rattle.algol_grammar.proofs.SoundDeclarations.{StartsAt, starts_at}

abbrev pub Keeps : Turn → Type 0
Keeps (takes plain ds) = all_outer ds ≡ true
Keeps (takes (nests d) ds) = all_outer ds ≡ true
Keeps (takes (label d spot) ds) = all_outer ds ≡ true
Keeps (takes l ds) = ⊥
Keeps closes = ⊥
Keeps x = Unit {0}

inner_outer : (s : Due) → IsInner s → is_outer s ≡ true
inner_outer whole_ends i = absurd i
inner_outer s i = refl

pub inners_outer : (due : List Due) → Inners due → all_outer due ≡ true
inners_outer [] i = refl
inners_outer (s ∷ due) i = rw (inner_outer s i.0, inners_outer due i.1) refl

stays_keeps : (x : Turn) → Stays x → Keeps x
stays_keeps (takes plain ds) i = inners_outer ds i
stays_keeps (takes (nests d) ds) i = inners_outer ds i
stays_keeps (takes (label d spot) ds) i = absurd i
stays_keeps (takes (begun l) ds) i = absurd i
stays_keeps (makes m) i = tt
stays_keeps skips i = tt
stays_keeps closes i = absurd i
stays_keeps refuses i = tt

either_keeps : (b : Bool) (x y : Turn) → Keeps x → Keeps y → Keeps (either b x y)
either_keeps true x y p q = p
either_keeps false x y p q = q

followed_keeps : (x : Turn) (more : List Due) → Keeps x → all_outer more ≡ true → Keeps (followed x more)
followed_keeps (takes plain ds) more x y = outer_append ds more x y
followed_keeps (takes (nests d) ds) more x y = outer_append ds more x y
followed_keeps (takes (label d spot) ds) more x y = outer_append ds more x y
followed_keeps (takes (begun l) ds) more x y = absurd x
followed_keeps (makes m) more x y = tt
followed_keeps skips more x y = tt
followed_keeps closes more x y = absurd x
followed_keeps refuses more x y = tt

kind_keeps : (o : Option Kind) (f : Kind → List Due) (x : Turn) → ((kind : Kind) → all_outer (f kind) ≡ true) → Keeps x → Keeps (optional o f x)
kind_keeps (Some kind) f x p q = p kind
kind_keeps None f x p q = q

phrase_keeps : (o : Option PhraseText) (f : PhraseText → List Due) → ((p : PhraseText) → all_outer (f p) ≡ true) → Keeps (optional o f refuses)
phrase_keeps (Some p) f q = q p
phrase_keeps None f q = tt

named_keeps : (spot : Spot) (k : TokenKind) → Keeps (turn_named spot k)
named_keeps spot (kinds.Name n) = refl
named_keeps spot k = tt

literal_keeps : (k : TokenKind) → Keeps (turn_literal k)
literal_keeps (kinds.Number n) = refl
literal_keeps (kinds.Symbol symbols.Minus) = refl
literal_keeps k = tt

number_keeps : (k : TokenKind) → Keeps (turn_negated k)
number_keeps (kinds.Number n) = refl
number_keeps k = tt

spec_typed_keeps : (kind : Kind) (spot : Spot) (k : TokenKind) → Keeps (turn_spec_typed kind spot k)
spec_typed_keeps kind spot (kinds.Name n) = refl
spec_typed_keeps kind spot (kinds.Word reserved.Array) = refl
spec_typed_keeps kind spot k = tt

typed_keeps : (kind : Kind) (d : ℕ) (spot : Spot) (k : TokenKind) → Keeps (turn_typed kind d spot k)
typed_keeps kind d spot (kinds.Name n) = refl
typed_keeps kind d spot (kinds.Word reserved.Array) = refl
typed_keeps kind d spot (kinds.Word reserved.Procedure) = refl
typed_keeps kind d spot k = tt

spec_keeps : (k : TokenKind) (otherwise : Turn) → Keeps otherwise → Keeps (turn_spec k otherwise)
spec_keeps k otherwise q = kind_keeps (type_of k) _ _ (λ kind. refl)
    (either_keeps (is_word reserved.Event k) _ _ refl (either_keeps (is_word reserved.Array k) _ _ refl q))

start_keeps : (d : ℕ) (spot : Spot) (k : TokenKind) (otherwise : Turn) → Keeps otherwise → Keeps (turn_start d spot k otherwise)
start_keeps d spot (kinds.Name n) otherwise q = refl
start_keeps d spot (kinds.Word reserved.Cause) otherwise q = refl
start_keeps d spot (kinds.Word reserved.CauseAndReset) otherwise q = refl
start_keeps d spot (kinds.Word reserved.Reset) otherwise q = refl
start_keeps d spot (kinds.Word reserved.Wait) otherwise q = refl
start_keeps d spot (kinds.Word reserved.Procure) otherwise q = refl
start_keeps d spot (kinds.Word reserved.Liberate) otherwise q = refl
start_keeps d spot (kinds.Word reserved.Begin) otherwise q = refl
start_keeps d spot (kinds.Word reserved.If) otherwise q = refl
start_keeps d spot (kinds.Word reserved.While) otherwise q = refl
start_keeps d spot (kinds.Word reserved.Do) otherwise q = refl
start_keeps d spot (kinds.Word reserved.For) otherwise q = refl
start_keeps d spot (kinds.Word reserved.Thru) otherwise q = refl
start_keeps d spot (kinds.Word reserved.Case) otherwise q = refl
start_keeps d spot (kinds.Word reserved.Go) otherwise q = refl
start_keeps d spot (kinds.Word reserved.Process) otherwise q = refl
start_keeps d spot (kinds.Word reserved.Write) otherwise q = refl
start_keeps d spot k otherwise q = q

behind_keeps : (n : Named) (d : ℕ) (k : TokenKind) → Keeps (turn_behind_start n d k)
behind_keeps n d (kinds.Symbol symbols.Colon) = refl
behind_keeps n d (kinds.Symbol symbols.Becomes) = refl
behind_keeps n d (kinds.Symbol symbols.OpenSquare) = refl
behind_keeps n d (kinds.Symbol symbols.OpenRound) = refl
behind_keeps n d k = tt

declaration_keeps : (d : ℕ) (k : TokenKind) → Keeps (turn_declaration d k skips)
declaration_keeps d (kinds.Word reserved.File) = refl
declaration_keeps d (kinds.Word reserved.Event) = refl
declaration_keeps d (kinds.Word reserved.Task) = refl
declaration_keeps d (kinds.Word reserved.Label) = refl
declaration_keeps d (kinds.Word reserved.Array) = refl
declaration_keeps d (kinds.Word reserved.Procedure) = refl
declaration_keeps d k = kind_keeps (type_of k) (λ kind. typed kind d ∷ []) skips (λ kind. refl) tt

entered_keeps : (d : ℕ) (x : Turn) → Keeps x → StartsAt (d + 1) x → Keeps (turn_entered d x)
entered_keeps d (takes plain ds) p s = outer_append ds (make with_body ∷ symbol symbols.Semicolon ∷ []) p refl
entered_keeps d (takes (nests m) ds) p s = outer_append ds (make with_body ∷ symbol symbols.Semicolon ∷ []) p refl
entered_keeps d (takes (label m spot) ds) p s = absurd s
entered_keeps d (takes (begun l) ds) p s = absurd s
entered_keeps d (makes m) p s = tt
entered_keeps d skips p s = tt
entered_keeps d closes p s = absurd s
entered_keeps d refuses p s = tt

body_keeps : (d : ℕ) (spot : Spot) (k : TokenKind) → Keeps (turn_procedure_body d spot k)
body_keeps d spot (kinds.Word reserved.Forward) = refl
body_keeps d spot (kinds.Symbol symbols.Semicolon) = refl
body_keeps d spot k = entered_keeps d (turn_start (d + 1) spot k refuses) (start_keeps (d + 1) spot k refuses tt) (starts_at (d + 1) spot k)

pub keeps : (s : Due) (spot : Spot) (k : TokenKind) → is_outer s ≡ true → ((d : ℕ) → s ≡ whole d → ⊥) → Keeps (reading_turn s spot k)
keeps (make m) spot k i n = tt
keeps (word w) spot k i n = stays_keeps _ (inner_stays (word w) spot k tt)
keeps (symbol s) spot k i n = stays_keeps _ (inner_stays (symbol s) spot k tt)
keeps (spelled name) spot k i n = stays_keeps _ (inner_stays (spelled name) spot k tt)
keeps (part p d) spot k i n = stays_keeps _ (inner_stays (part p d) spot k tt)
keeps (more_of l d) spot k i n = stays_keeps _ (inner_stays (more_of l d) spot k tt)
keeps (relation d) spot k i n = stays_keeps _ (inner_stays (relation d) spot k tt)
keeps (behind_name name d) spot k i n = stays_keeps _ (inner_stays (behind_name name d) spot k tt)
keeps (exprs_more d) spot k i n = stays_keeps _ (inner_stays (exprs_more d) spot k tt)
keeps (opening s d) spot k i n = stays_keeps _ (inner_stays (opening s d) spot k tt)
keeps event spot k i n = stays_keeps _ (inner_stays event spot k tt)
keeps events_more spot k i n = stays_keeps _ (inner_stays events_more spot k tt)
keeps (behind_event name) spot k i n = stays_keeps _ (inner_stays (behind_event name) spot k tt)
keeps (whole d) spot k i n = absurd (n d refl)
keeps whole_ends spot k i n = cc
keeps named spot k i n = named_keeps spot k
keeps names_more spot k i n = either_keeps (is_symbol symbols.Comma k) _ _ refl tt
keeps printer_part spot k i n = either_keeps (is_symbol symbols.OpenRound k) _ _ refl tt
keeps files_more spot k i n = either_keeps (is_symbol symbols.Comma k) _ _ refl tt
keeps literal spot k i n = literal_keeps k
keeps number_negated spot k i n = number_keeps k
keeps lows_more spot k i n = either_keeps (is_symbol symbols.Comma k) _ _ refl tt
keeps values_part spot k i n = either_keeps (is_word reserved.Value k) _ _ refl tt
keeps spec spot k i n = spec_keeps k refuses tt
keeps (spec_typed kind) spot k i n = spec_typed_keeps kind spot k
keeps specs_more spot k i n = followed_keeps (turn_spec k skips) (specs_more ∷ []) (spec_keeps k skips tt) refl
keeps (behind_procedure kind) spot k i n = either_keeps (is_symbol symbols.Semicolon k) _ _ refl (either_keeps (is_symbol symbols.OpenRound k) _ _ refl tt)
keeps wholes_more spot k i n = either_keeps (is_symbol symbols.Comma k) _ _ refl tt
keeps actuals_part spot k i n = either_keeps (is_symbol symbols.OpenRound k) _ _ refl tt
keeps items_part spot k i n = either_keeps (is_symbol symbols.Comma k) _ _ refl tt
keeps pairs_more spot k i n = either_keeps (is_symbol symbols.Comma k) _ _ refl tt
keeps (segments_more kind) spot k i n = either_keeps (is_symbol symbols.Comma k) _ _ refl tt
keeps task_part spot k i n = either_keeps (is_symbol symbols.OpenSquare k) _ _ refl tt
keeps to_part spot k i n = either_keeps (is_word reserved.To k) _ _ refl tt
keeps angle spot k i n = either_keeps (is_symbol symbols.Less k) _ _ refl tt
keeps phrase spot k i n = phrase_keeps (phrase_of k) _ (λ p. refl)
keeps phrases_more spot k i n = either_keeps (is_symbol symbols.Comma k) _ _ refl tt
keeps (statement d) spot k i n = start_keeps d spot k (makes (value_put (stmt trees.empty))) tt
keeps (behind_start name d) spot k i n = behind_keeps name d k
keeps (else_part d) spot k i n = either_keeps (is_word reserved.Else k) _ _ refl tt
keeps (stmts_more d) spot k i n = either_keeps (is_symbol symbols.Semicolon k) _ _ refl tt
keeps (declarations d) spot k i n = followed_keeps (turn_declaration d k skips) (declarations d ∷ []) (declaration_keeps d k) refl
keeps (typed kind d) spot k i n = typed_keeps kind d spot k
keeps (procedure_body d) spot k i n = body_keeps d spot k
keeps program spot k i n = either_keeps (is_word reserved.Begin k) _ _ refl tt
