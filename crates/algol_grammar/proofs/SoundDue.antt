-- Whatever is due: what is read of it is of the grammar, and what it turns into is due of the same.
use Rattle.std.proofs.Common.{◌≡◌, ◌+◌, ℕ, Bool, true, false, ◌&&◌, List, [], ◌∷◌, ◌++◌, Option, Some, None, refl, ap, ◌∙◌}
use Rattle.algol_tree.specs.declared.token.Spot.{Spot}
use Rattle.algol_tree.specs.declared.token.Token.{Token}
use Rattle.algol_tree.specs.declared.token.TokenKind.{TokenKind}
use Rattle.algol_tree.specs.declared.token.TokenKind.TheVariants as kinds
use Rattle.algol_tree.specs.declared.token.Reserved.TheVariants as reserved
use Rattle.algol_tree.specs.declared.token.Symbol.TheVariants as symbols
use Rattle.algol_tree.specs.declared.tree.Named.{Named}
use Rattle.algol_tree.specs.declared.tree.Kind.{Kind}
use Rattle.algol_tree.specs.declared.tree.PhraseText.{PhraseText}
use Rattle.algol_tree.specs.Plain as trees
use Rattle.algol_tree.specs.Plain.{called, none}
use Rattle.algol_tree.specs.Tokens.{is_word, is_symbol}
use Rattle.algol_tree.specs.Headings.{type_of}
use Rattle.algol_tree.specs.Statements as grammar
use Rattle.algol_tree.specs.Statements.{phrase_of, act_of}
use Rattle.algol_tree.specs.Due.{Value, many, names, task, stmt, value_put, Due, make, word, symbol, spelled, part, more_of, relation, behind_name, exprs_more, opening, event, events_more, behind_event, whole, whole_ends, named, names_more, printer_part, files_more, literal, number_negated, lows_more, values_part, spec, spec_typed, specs_more, behind_procedure, wholes_more, actuals_part, items_part, pairs_more, segments_more, task_part, to_part, angle, phrase, phrases_more, statement, behind_start, else_part, stmts_more, declarations, typed, procedure_body, program, plain, nests, label, begun, Turn, takes, makes, skips, closes, refuses, followed, either, optional}
use Rattle.algol_tree.specs.DueDecl.{turn_named, turn_literal, turn_negated, turn_spec_typed}
use Rattle.algol_tree.specs.DueStmt.{turn_start, turn_behind_start, turn_typed, turn_declarations, turn_entered, turn_procedure_body, one_armed}
use Rattle.algol_tree.specs.Reading.{reading_turn}
use Rattle.algol_expr.proofs.Inner.{IsInner, Inners, Stays, inner_stays}
use Rattle.algol_expr.proofs.Sound as inner
use Rattle.algol_expr.proofs.Sound.{Leaves, left_out, makes_it}
use Rattle.algol_grammar.proofs.Optional.{NotFirst}
use Rattle.algol_grammar.proofs.Meant.{gives, IsDue, IsAll, nil, cons, Taken, IsFirst}
use Rattle.algol_grammar.proofs.Given.{leave_skip, leave_put}
use Rattle.algol_grammar.proofs.SoundHeadings.{back_named, no_names_more, back_names_more, no_printer, back_printer, no_files_more, back_files_more, back_literal, back_negated, no_lows_more, back_lows_more, no_values, back_values, back_spec_typed, back_spec, no_specs_more, back_specs_more, back_heading}
use Rattle.algol_grammar.proofs.SoundLists.{no_wholes_more, back_wholes_more, no_actuals, back_actuals, no_items, back_items, no_pairs_more, back_pairs_more, no_segments_more, back_segments_more, no_task, back_task, no_to, back_to, back_angle, back_phrase, no_phrases_more, back_phrases_more}
use Rattle.algol_grammar.proofs.SoundStatements.{shut, no_stmts_more, back_stmts_more, no_else, back_else, back_start, back_behind, only_name}
use Rattle.algol_grammar.proofs.SoundDeclarations.{no_declarations, back_declarations, back_typed, StartsAt, starts_at, back_procedure_body, back_program}

-- it is neither of an expression that stands in no other nor the end of one
abbrev pub is_outer : Due → Bool
is_outer whole_ends = false
is_outer s = true

abbrev pub all_outer : List Due → Bool
all_outer [] = true
all_outer (s ∷ due) = is_outer s && all_outer due

pub outer_append : (a b : List Due) → all_outer a ≡ true → all_outer b ≡ true → all_outer (a ++ b) ≡ true
outer_append [] b x y = y
outer_append (s ∷ a) b x y = by_first (is_outer s) x (λ x. outer_append a b x y)
  where
    by_first : (c : Bool) → (c && all_outer a) ≡ true → (all_outer a ≡ true → all_outer (a ++ b) ≡ true) → (c && all_outer (a ++ b)) ≡ true
    by_first true x on = on x
    by_first false x on = cc

-- what is of an expression means the same here

due_inner : (free : ℕ) (s : Due) (vs : List Value) (from : List Token) (ws : List Value) (rest : List Token) → IsInner s → IsDue free s vs from ws rest → inner.IsDue free s vs from ws rest
due_inner free (make m) vs from ws rest i x = x
due_inner free (word w) vs from ws rest i x = x
due_inner free (symbol s) vs from ws rest i x = x
due_inner free (spelled n) vs from ws rest i x = x
due_inner free (part p d) vs from ws rest i x = x
due_inner free (more_of l d) vs from ws rest i x = x
due_inner free (relation d) vs from ws rest i x = x
due_inner free (behind_name n d) vs from ws rest i x = x
due_inner free (exprs_more d) vs from ws rest i x = x
due_inner free (opening s d) vs from ws rest i x = x
due_inner free event vs from ws rest i x = x
due_inner free events_more vs from ws rest i x = x
due_inner free (behind_event n) vs from ws rest i x = x
due_inner free s vs from ws rest i x = absurd i

pub all_inner : (free : ℕ) (due : List Due) (vs : List Value) (from : List Token) (ws : List Value) (rest : List Token) → Inners due → IsAll free due vs from ws rest →
    inner.IsAll free due vs from ws rest
all_inner free _ vs from _ _ i (nil _ _) = inner.nil vs from
all_inner free _ vs from ws rest i (cons s due _ us _ _ mid _ x y) =
    inner.cons s due vs us ws from mid rest (due_inner free s vs from us mid i.0 x) (all_inner free due us mid ws rest i.1 y)

taken_inner : (free : ℕ) (x : Turn) (t : Token) (ts : List Token) (vs ws : List Value) (rest : List Token) → Stays x → Taken free x t ts vs ws rest → inner.Taken free x t ts vs ws rest
taken_inner free (takes plain ds) t ts vs ws rest i a = all_inner free ds vs ts ws rest i a
taken_inner free (takes (nests d) ds) t ts vs ws rest i a = (a.0, all_inner free ds vs ts ws rest i a.1)
taken_inner free (takes (label d spot) ds) t ts vs ws rest i a = absurd i
taken_inner free (takes (begun l) ds) t ts vs ws rest i a = absurd i
taken_inner free (makes m) t ts vs ws rest i a = absurd a
taken_inner free skips t ts vs ws rest i a = absurd a
taken_inner free closes t ts vs ws rest i a = absurd a
taken_inner free refuses t ts vs ws rest i a = absurd a

back_inner : (free : ℕ) (s : Due) (t : Token) (ts : List Token) (vs ws : List Value) (rest : List Token) → IsInner s → Taken free (reading_turn s t.spot t.kind) t ts vs ws rest →
    inner.IsDue free s vs (t ∷ ts) ws rest
back_inner free s t ts vs ws rest i x = inner.back free s t ts vs ws rest i (taken_inner free (reading_turn s t.spot t.kind) t ts vs ws rest (inner_stays s t.spot t.kind i) x)

-- what is taken
pub back : (free : ℕ) (s : Due) (t : Token) (ts : List Token) (vs ws : List Value) (rest : List Token) → ((d : ℕ) → s ≡ whole d → ⊥) →
    Taken free (reading_turn s t.spot t.kind) t ts vs ws rest → IsDue free s vs (t ∷ ts) ws rest
back free (make m) t ts vs ws rest n x = absurd x
back free (word w) t ts vs ws rest n x = back_inner free (word w) t ts vs ws rest tt x
back free (symbol s) t ts vs ws rest n x = back_inner free (symbol s) t ts vs ws rest tt x
back free (spelled name) t ts vs ws rest n x = back_inner free (spelled name) t ts vs ws rest tt x
back free (part p d) t ts vs ws rest n x = back_inner free (part p d) t ts vs ws rest tt x
back free (more_of l d) t ts vs ws rest n x = back_inner free (more_of l d) t ts vs ws rest tt x
back free (relation d) t ts vs ws rest n x = back_inner free (relation d) t ts vs ws rest tt x
back free (behind_name name d) t ts vs ws rest n x = back_inner free (behind_name name d) t ts vs ws rest tt x
back free (exprs_more d) t ts vs ws rest n x = back_inner free (exprs_more d) t ts vs ws rest tt x
back free (opening s d) t ts vs ws rest n x = back_inner free (opening s d) t ts vs ws rest tt x
back free event t ts vs ws rest n x = back_inner free event t ts vs ws rest tt x
back free events_more t ts vs ws rest n x = back_inner free events_more t ts vs ws rest tt x
back free (behind_event name) t ts vs ws rest n x = back_inner free (behind_event name) t ts vs ws rest tt x
back free (whole d) t ts vs ws rest n x = absurd (n d refl)
back free whole_ends t ts vs ws rest n x = absurd x
back free named t ts vs ws rest n x = back_named free t ts vs ws rest t.kind refl x
back free names_more t ts vs ws rest n x = back_names_more free (is_symbol symbols.Comma t.kind) t ts vs ws rest refl x
back free printer_part t ts vs ws rest n x = back_printer free (is_symbol symbols.OpenRound t.kind) t ts vs ws rest refl x
back free files_more t ts vs ws rest n x = back_files_more free (is_symbol symbols.Comma t.kind) t ts vs ws rest refl x
back free literal t ts vs ws rest n x = back_literal free t ts vs ws rest t.kind refl x
back free number_negated t ts vs ws rest n x = back_negated free t ts vs ws rest t.kind refl x
back free lows_more t ts vs ws rest n x = back_lows_more free (is_symbol symbols.Comma t.kind) t ts vs ws rest refl x
back free values_part t ts vs ws rest n x = back_values free (is_word reserved.Value t.kind) t ts vs ws rest refl x
back free spec t ts vs ws rest n x = back_spec free t ts vs ws rest refuses (λ no. no) x
back free (spec_typed kind) t ts vs ws rest n x = back_spec_typed free kind t ts vs ws rest t.kind refl x
back free specs_more t ts vs ws rest n x = back_specs_more free t ts vs ws rest x
back free (behind_procedure kind) t ts vs ws rest n x =
    back_heading free kind (is_symbol symbols.Semicolon t.kind) (is_symbol symbols.OpenRound t.kind) t ts vs ws rest refl refl x
back free wholes_more t ts vs ws rest n x = back_wholes_more free (is_symbol symbols.Comma t.kind) t ts vs ws rest refl x
back free actuals_part t ts vs ws rest n x = back_actuals free (is_symbol symbols.OpenRound t.kind) t ts vs ws rest refl x
back free items_part t ts vs ws rest n x = back_items free (is_symbol symbols.Comma t.kind) t ts vs ws rest refl x
back free pairs_more t ts vs ws rest n x = back_pairs_more free (is_symbol symbols.Comma t.kind) t ts vs ws rest refl x
back free (segments_more kind) t ts vs ws rest n x = back_segments_more free kind (is_symbol symbols.Comma t.kind) t ts vs ws rest refl x
back free task_part t ts vs ws rest n x = back_task free (is_symbol symbols.OpenSquare t.kind) t ts vs ws rest refl x
back free to_part t ts vs ws rest n x = back_to free (is_word reserved.To t.kind) t ts vs ws rest refl x
back free angle t ts vs ws rest n x = back_angle free (is_symbol symbols.Less t.kind) t ts vs ws rest refl x
back free phrase t ts vs ws rest n x = back_phrase free (phrase_of t.kind) t ts vs ws rest refl x
back free phrases_more t ts vs ws rest n x = back_phrases_more free (is_symbol symbols.Comma t.kind) t ts vs ws rest refl x
back free (statement d) t ts vs ws rest n x = back_start free d t ts vs ws rest t.kind refl (makes (value_put (stmt trees.empty))) (λ no. no) x
back free (behind_start name d) t ts vs ws rest n x = back_behind free name d t ts vs ws rest t.kind refl x
back free (else_part d) t ts vs ws rest n x = back_else free d (is_word reserved.Else t.kind) t ts vs ws rest refl x
back free (stmts_more d) t ts vs ws rest n x = back_stmts_more free d (is_symbol symbols.Semicolon t.kind) t ts vs ws rest refl x
back free (declarations d) t ts vs ws rest n x = back_declarations free d t ts vs ws rest x
back free (typed kind d) t ts vs ws rest n x = back_typed free kind d t ts vs ws rest t.kind refl x
back free (procedure_body d) t ts vs ws rest n x = back_procedure_body free d t ts vs ws rest t.kind refl x
back free program t ts vs ws rest n x = back_program free (is_word reserved.Begin t.kind) t ts vs ws rest refl x

-- what is left out

no_name : (spot : Spot) (k : TokenKind) (vs ws : List Value) (from rest : List Token) → Leaves (turn_named spot k) vs from ws rest → ⊥
no_name spot (kinds.Name n) vs ws from rest l = l
no_name spot k vs ws from rest l = l

no_literal : (k : TokenKind) (vs ws : List Value) (from rest : List Token) → Leaves (turn_literal k) vs from ws rest → ⊥
no_literal (kinds.Number n) vs ws from rest l = l
no_literal (kinds.Symbol symbols.Minus) vs ws from rest l = l
no_literal k vs ws from rest l = l

no_number : (k : TokenKind) (vs ws : List Value) (from rest : List Token) → Leaves (turn_negated k) vs from ws rest → ⊥
no_number (kinds.Number n) vs ws from rest l = l
no_number k vs ws from rest l = l

no_spec_typed : (kind : Kind) (spot : Spot) (k : TokenKind) (vs ws : List Value) (from rest : List Token) → Leaves (turn_spec_typed kind spot k) vs from ws rest → ⊥
no_spec_typed kind spot (kinds.Name n) vs ws from rest l = l
no_spec_typed kind spot (kinds.Word reserved.Array) vs ws from rest l = l
no_spec_typed kind spot k vs ws from rest l = l

no_typed : (kind : Kind) (d : ℕ) (spot : Spot) (k : TokenKind) (vs ws : List Value) (from rest : List Token) → Leaves (turn_typed kind d spot k) vs from ws rest → ⊥
no_typed kind d spot (kinds.Name n) vs ws from rest l = l
no_typed kind d spot (kinds.Word reserved.Array) vs ws from rest l = l
no_typed kind d spot (kinds.Word reserved.Procedure) vs ws from rest l = l
no_typed kind d spot k vs ws from rest l = l

spec_left : (o : Option Kind) (a b : Bool) (f : Kind → List Due) (x y more : List Due) (otherwise : Turn) (vs ws : List Value) (from rest : List Token) →
    Leaves (followed (optional o f (either a (takes plain x) (either b (takes plain y) otherwise))) more) vs from ws rest → Leaves (followed otherwise more) vs from ws rest
spec_left (Some kind) a b f x y more otherwise vs ws from rest l = absurd l
spec_left None true b f x y more otherwise vs ws from rest l = absurd l
spec_left None false true f x y more otherwise vs ws from rest l = absurd l
spec_left None false false f x y more otherwise vs ws from rest l = l

start_left : (d : ℕ) (spot : Spot) (k : TokenKind) (otherwise : Turn) (vs ws : List Value) (from rest : List Token) → Leaves (turn_start d spot k otherwise) vs from ws rest →
    Leaves otherwise vs from ws rest
start_left d spot (kinds.Name n) otherwise vs ws from rest l = absurd l
start_left d spot (kinds.Word reserved.Cause) otherwise vs ws from rest l = absurd l
start_left d spot (kinds.Word reserved.CauseAndReset) otherwise vs ws from rest l = absurd l
start_left d spot (kinds.Word reserved.Reset) otherwise vs ws from rest l = absurd l
start_left d spot (kinds.Word reserved.Wait) otherwise vs ws from rest l = absurd l
start_left d spot (kinds.Word reserved.Procure) otherwise vs ws from rest l = absurd l
start_left d spot (kinds.Word reserved.Liberate) otherwise vs ws from rest l = absurd l
start_left d spot (kinds.Word reserved.Begin) otherwise vs ws from rest l = absurd l
start_left d spot (kinds.Word reserved.If) otherwise vs ws from rest l = absurd l
start_left d spot (kinds.Word reserved.While) otherwise vs ws from rest l = absurd l
start_left d spot (kinds.Word reserved.Do) otherwise vs ws from rest l = absurd l
start_left d spot (kinds.Word reserved.For) otherwise vs ws from rest l = absurd l
start_left d spot (kinds.Word reserved.Thru) otherwise vs ws from rest l = absurd l
start_left d spot (kinds.Word reserved.Case) otherwise vs ws from rest l = absurd l
start_left d spot (kinds.Word reserved.Go) otherwise vs ws from rest l = absurd l
start_left d spot (kinds.Word reserved.Process) otherwise vs ws from rest l = absurd l
start_left d spot (kinds.Word reserved.Write) otherwise vs ws from rest l = absurd l
start_left d spot k otherwise vs ws from rest l = l

leave_statement : (free d : ℕ) (vs ws : List Value) (from rest : List Token) → Leaves (makes (value_put (stmt trees.empty))) vs from ws rest → IsDue free (statement d) vs from ws rest
leave_statement free d vs _ from _ makes_it = gives trees.empty from (shut (grammar.nothing d from) refl)

leave_behind : (free : ℕ) (n : Named) (d : ℕ) (k : TokenKind) (vs ws : List Value) (from rest : List Token) → Leaves (turn_behind_start n d k) vs from ws rest →
    IsDue free (behind_start n d) vs from ws rest
leave_behind free n d (kinds.Symbol symbols.Colon) vs ws from rest l = absurd l
leave_behind free n d (kinds.Symbol symbols.Becomes) vs ws from rest l = absurd l
leave_behind free n d (kinds.Symbol symbols.OpenSquare) vs ws from rest l = absurd l
leave_behind free n d (kinds.Symbol symbols.OpenRound) vs ws from rest l = absurd l
leave_behind free n d k vs ws from rest l = by_making ws rest l
  where
    by_making : (ws : List Value) (rest : List Token) → inner.IsMaking (value_put (stmt (trees.call_of (called n none)))) vs from ws rest → IsDue free (behind_start n d) vs from ws rest
    by_making _ _ makes_it = only_name free n d vs from

not_first : (from : List Token) (k : TokenKind) → IsFirst from k → is_word reserved.Else k ≡ false → NotFirst (is_word reserved.Else) from
not_first [] k f e = tt
not_first (t ∷ ts) k f e = ap (is_word reserved.Else) f ∙ e

leave_else : (free d : ℕ) (k : TokenKind) (b : Bool) (vs ws : List Value) (from rest : List Token) → IsFirst from k → is_word reserved.Else k ≡ b → (ds : List Due) →
    Leaves (either b (takes plain ds) (makes one_armed)) vs from ws rest → IsDue free (else_part d) vs from ws rest
leave_else free d k true vs ws from rest f e ds l = absurd l
leave_else free d k false vs _ from _ f e ds makes_it = no_else free d vs from (not_first from k f e)

declaration_left : (free d : ℕ) (k : TokenKind) (vs ws : List Value) (from rest : List Token) → Leaves (turn_declarations d k) vs from ws rest → inner.IsLeft vs from ws rest
declaration_left free d (kinds.Word reserved.File) vs ws from rest l = absurd l
declaration_left free d (kinds.Word reserved.Event) vs ws from rest l = absurd l
declaration_left free d (kinds.Word reserved.Task) vs ws from rest l = absurd l
declaration_left free d (kinds.Word reserved.Label) vs ws from rest l = absurd l
declaration_left free d (kinds.Word reserved.Array) vs ws from rest l = absurd l
declaration_left free d (kinds.Word reserved.Procedure) vs ws from rest l = absurd l
declaration_left free d k vs ws from rest l = by_type (type_of k) l
  where
    by_type : (o : Option Kind) → Leaves (followed (optional o (λ kind. typed kind d ∷ []) skips) (declarations d ∷ [])) vs from ws rest → inner.IsLeft vs from ws rest
    by_type (Some kind) l = absurd l
    by_type None l = l

leave_declarations : (free d : ℕ) (vs ws : List Value) (from rest : List Token) → inner.IsLeft vs from ws rest → IsDue free (declarations d) vs from ws rest
leave_declarations free d vs _ from _ left_out = no_declarations free d vs from

leave_specs : (free : ℕ) (vs ws : List Value) (from rest : List Token) → inner.IsLeft vs from ws rest → IsDue free specs_more vs from ws rest
leave_specs free vs _ from _ left_out = no_specs_more free vs from

entered_left : (d : ℕ) (x : Turn) (vs ws : List Value) (from rest : List Token) → StartsAt (d + 1) x → Leaves (turn_entered d x) vs from ws rest → ⊥
entered_left d (takes plain ds) vs ws from rest s l = l
entered_left d (takes (nests m) ds) vs ws from rest s l = l
entered_left d (takes (label m spot) ds) vs ws from rest s l = l
entered_left d (takes (begun x) ds) vs ws from rest s l = l
entered_left d (makes m) vs ws from rest s l = s
entered_left d skips vs ws from rest s l = s
entered_left d closes vs ws from rest s l = s
entered_left d refuses vs ws from rest s l = l

body_left : (d : ℕ) (spot : Spot) (k : TokenKind) (vs ws : List Value) (from rest : List Token) → Leaves (turn_procedure_body d spot k) vs from ws rest → ⊥
body_left d spot (kinds.Word reserved.Forward) vs ws from rest l = l
body_left d spot (kinds.Symbol symbols.Semicolon) vs ws from rest l = l
body_left d spot k vs ws from rest l = entered_left d (turn_start (d + 1) spot k refuses) vs ws from rest (starts_at (d + 1) spot k) l

heading_left : (a b : Bool) (x y : List Due) (vs ws : List Value) (from rest : List Token) → Leaves (either a (takes plain x) (either b (takes plain y) refuses)) vs from ws rest → ⊥
heading_left true b x y vs ws from rest l = l
heading_left false true x y vs ws from rest l = l
heading_left false false x y vs ws from rest l = l

phrase_left : (o : Option PhraseText) (f : PhraseText → List Due) (vs ws : List Value) (from rest : List Token) → Leaves (optional o f refuses) vs from ws rest → ⊥
phrase_left (Some p) f vs ws from rest l = l
phrase_left None f vs ws from rest l = l

test_left : (b : Bool) (x : Turn) (vs ws : List Value) (from rest : List Token) → (Leaves x vs from ws rest → ⊥) → Leaves (either b x refuses) vs from ws rest → ⊥
test_left true x vs ws from rest n l = n l
test_left false x vs ws from rest n l = l

pub leave : (free : ℕ) (s : Due) (spot : Spot) (k : TokenKind) (vs ws : List Value) (from rest : List Token) → ((d : ℕ) → s ≡ whole d → ⊥) → IsFirst from k →
    Leaves (reading_turn s spot k) vs from ws rest → IsDue free s vs from ws rest
leave free (make m) spot k vs ws from rest n f l = l
leave free (word w) spot k vs ws from rest n f l = inner.leave free (word w) spot k vs ws from rest tt l
leave free (symbol s) spot k vs ws from rest n f l = inner.leave free (symbol s) spot k vs ws from rest tt l
leave free (spelled name) spot k vs ws from rest n f l = inner.leave free (spelled name) spot k vs ws from rest tt l
leave free (part p d) spot k vs ws from rest n f l = inner.leave free (part p d) spot k vs ws from rest tt l
leave free (more_of x d) spot k vs ws from rest n f l = inner.leave free (more_of x d) spot k vs ws from rest tt l
leave free (relation d) spot k vs ws from rest n f l = inner.leave free (relation d) spot k vs ws from rest tt l
leave free (behind_name name d) spot k vs ws from rest n f l = inner.leave free (behind_name name d) spot k vs ws from rest tt l
leave free (exprs_more d) spot k vs ws from rest n f l = inner.leave free (exprs_more d) spot k vs ws from rest tt l
leave free (opening s d) spot k vs ws from rest n f l = inner.leave free (opening s d) spot k vs ws from rest tt l
leave free event spot k vs ws from rest n f l = inner.leave free event spot k vs ws from rest tt l
leave free events_more spot k vs ws from rest n f l = inner.leave free events_more spot k vs ws from rest tt l
leave free (behind_event name) spot k vs ws from rest n f l = inner.leave free (behind_event name) spot k vs ws from rest tt l
leave free (whole d) spot k vs ws from rest n f l = absurd (n d refl)
leave free whole_ends spot k vs ws from rest n f l = absurd l
leave free named spot k vs ws from rest n f l = absurd (no_name spot k vs ws from rest l)
leave free names_more spot k vs ws from rest n f l =
    leave_skip (is_symbol symbols.Comma k) _ vs ws from rest (λ ws rest. IsDue free names_more vs from ws rest) (no_names_more free vs from) l
leave free printer_part spot k vs ws from rest n f l =
    leave_skip (is_symbol symbols.OpenRound k) _ vs ws from rest (λ ws rest. IsDue free printer_part vs from ws rest) (no_printer free vs from) l
leave free files_more spot k vs ws from rest n f l =
    leave_skip (is_symbol symbols.Comma k) _ vs ws from rest (λ ws rest. IsDue free files_more vs from ws rest) (no_files_more free vs from) l
leave free literal spot k vs ws from rest n f l = absurd (no_literal k vs ws from rest l)
leave free number_negated spot k vs ws from rest n f l = absurd (no_number k vs ws from rest l)
leave free lows_more spot k vs ws from rest n f l =
    leave_skip (is_symbol symbols.Comma k) _ vs ws from rest (λ ws rest. IsDue free lows_more vs from ws rest) (no_lows_more free vs from) l
leave free values_part spot k vs ws from rest n f l =
    leave_put (is_word reserved.Value k) _ (names []) vs ws from rest (λ ws rest. IsDue free values_part vs from ws rest) (no_values free vs from) l
leave free spec spot k vs ws from rest n f l = absurd (spec_only (type_of k) (is_word reserved.Event k) (is_word reserved.Array k) _ _ _ l)
  where
    spec_only : (o : Option Kind) (a b : Bool) (f : Kind → List Due) (x y : List Due) →
        Leaves (optional o f (either a (takes plain x) (either b (takes plain y) refuses))) vs from ws rest → ⊥
    spec_only (Some kind) a b f x y l = l
    spec_only None true b f x y l = l
    spec_only None false true f x y l = l
    spec_only None false false f x y l = l
leave free (spec_typed kind) spot k vs ws from rest n f l = absurd (no_spec_typed kind spot k vs ws from rest l)
leave free specs_more spot k vs ws from rest n f l =
    leave_specs free vs ws from rest (spec_left (type_of k) (is_word reserved.Event k) (is_word reserved.Array k) _ _ _ _ skips vs ws from rest l)
leave free (behind_procedure kind) spot k vs ws from rest n f l = absurd (heading_left (is_symbol symbols.Semicolon k) (is_symbol symbols.OpenRound k) _ _ vs ws from rest l)
leave free wholes_more spot k vs ws from rest n f l =
    leave_skip (is_symbol symbols.Comma k) _ vs ws from rest (λ ws rest. IsDue free wholes_more vs from ws rest) (no_wholes_more free vs from) l
leave free actuals_part spot k vs ws from rest n f l =
    leave_put (is_symbol symbols.OpenRound k) _ (many none) vs ws from rest (λ ws rest. IsDue free actuals_part vs from ws rest) (no_actuals free vs from) l
leave free items_part spot k vs ws from rest n f l =
    leave_put (is_symbol symbols.Comma k) _ (many none) vs ws from rest (λ ws rest. IsDue free items_part vs from ws rest) (no_items free vs from) l
leave free pairs_more spot k vs ws from rest n f l =
    leave_skip (is_symbol symbols.Comma k) _ vs ws from rest (λ ws rest. IsDue free pairs_more vs from ws rest) (no_pairs_more free vs from) l
leave free (segments_more kind) spot k vs ws from rest n f l =
    leave_skip (is_symbol symbols.Comma k) _ vs ws from rest (λ ws rest. IsDue free (segments_more kind) vs from ws rest) (no_segments_more free kind vs from) l
leave free task_part spot k vs ws from rest n f l =
    leave_put (is_symbol symbols.OpenSquare k) _ (task None) vs ws from rest (λ ws rest. IsDue free task_part vs from ws rest) (no_task free vs from) l
leave free to_part spot k vs ws from rest n f l =
    leave_skip (is_word reserved.To k) [] vs ws from rest (λ ws rest. IsDue free to_part vs from ws rest) (no_to free vs from) l
leave free angle spot k vs ws from rest n f l = absurd (test_left (is_symbol symbols.Less k) _ vs ws from rest (λ no. no) l)
leave free phrase spot k vs ws from rest n f l = absurd (phrase_left (phrase_of k) _ vs ws from rest l)
leave free phrases_more spot k vs ws from rest n f l =
    leave_skip (is_symbol symbols.Comma k) _ vs ws from rest (λ ws rest. IsDue free phrases_more vs from ws rest) (no_phrases_more free vs from) l
leave free (statement d) spot k vs ws from rest n f l =
    leave_statement free d vs ws from rest (start_left d spot k (makes (value_put (stmt trees.empty))) vs ws from rest l)
leave free (behind_start name d) spot k vs ws from rest n f l = leave_behind free name d k vs ws from rest l
leave free (else_part d) spot k vs ws from rest n f l = leave_else free d k (is_word reserved.Else k) vs ws from rest f refl _ l
leave free (stmts_more d) spot k vs ws from rest n f l =
    leave_skip (is_symbol symbols.Semicolon k) _ vs ws from rest (λ ws rest. IsDue free (stmts_more d) vs from ws rest) (no_stmts_more free d vs from) l
leave free (declarations d) spot k vs ws from rest n f l = leave_declarations free d vs ws from rest (declaration_left free d k vs ws from rest l)
leave free (typed kind d) spot k vs ws from rest n f l = absurd (no_typed kind d spot k vs ws from rest l)
leave free (procedure_body d) spot k vs ws from rest n f l = absurd (body_left d spot k vs ws from rest l)
leave free program spot k vs ws from rest n f l = absurd (test_left (is_word reserved.Begin k) _ vs ws from rest (λ no. no) l)
