-- What has to come at a token, has to come at the end of the text.
use Rattle.std.proofs.Common.{◌≡◌, ◌+◌, ℕ, Bool, true, false, ◌&&◌, List, [], ◌∷◌, ◌++◌, Option, Some, None, refl, sym, subst}
use Rattle.algol_tree.specs.declared.token.Spot.{Spot}
use Rattle.algol_tree.specs.declared.token.TokenKind.{TokenKind}
use Rattle.algol_tree.specs.declared.token.TokenKind.TheVariants as kinds
use Rattle.algol_tree.specs.declared.token.Reserved.TheVariants as reserved
use Rattle.algol_tree.specs.declared.token.Symbol.TheVariants as symbols
use Rattle.algol_tree.specs.declared.refusal.Code.TheVariants as codes
use Rattle.algol_tree.specs.declared.tree.Named.{Named}
use Rattle.algol_tree.specs.declared.tree.Kind.{Kind}
use Rattle.algol_tree.specs.Plain as trees
use Rattle.algol_tree.specs.Tokens.{is_word, is_symbol, is_spelled}
use Rattle.algol_tree.specs.Operators.{operator, relop, expr}
use Rattle.algol_tree.specs.Headings.{type_of}
use Rattle.algol_tree.specs.Statements.{phrase_of}
use Rattle.algol_tree.specs.Due.{Value, stmt, value_put, Due, make, word, symbol, spelled, part, more_of, relation, behind_name, exprs_more, opening, event, events_more, behind_event, whole, whole_ends, named, names_more, printer_part, files_more, literal, number_negated, lows_more, values_part, spec, spec_typed, specs_more, behind_procedure, wholes_more, actuals_part, items_part, pairs_more, segments_more, task_part, to_part, angle, phrase, phrases_more, statement, behind_start, else_part, stmts_more, declarations, typed, procedure_body, program, Limit, plain, Turn, takes, makes, skips, closes, refuses, followed, begins, either, optional}
use Rattle.algol_tree.specs.DueExpr.{turn_expr, turn_event, on_with}
use Rattle.algol_tree.specs.DueDecl.{turn_named, turn_literal, turn_negated, turn_spec_typed}
use Rattle.algol_tree.specs.DueStmt.{turn_start, turn_behind_start, turn_typed, turn_declaration, turn_entered, turn_procedure_body}
use Rattle.algol_tree.specs.Reading.{reading_turn, Count, outside, full, limit_counted, limit_broken, broken_at, goes, over, stops, unless, stepped, step, unjudged, nowhere}
use Rattle.algol_expr.proofs.Reading.{Takes, taken, refused_, followed_takes}
use Rattle.algol_expr.proofs.Ends.{operator_end}
use Rattle.algol_expr.proofs.Steps.{strict}
use Rattle.algol_expr.proofs.Sound.{part_takes}
use Rattle.algol_grammar.proofs.SoundDeclarations.{StartsAt, starts_at}
use Rattle.algol_grammar.proofs.Feed.{unless_not}

-- a turn x at a token, and y at the end of the text
abbrev IsIdle : Turn → Turn → Type 0
IsIdle (takes l ds) y = Unit {0}
IsIdle (makes m) y = y ≡ makes m
IsIdle skips y = y ≡ skips
IsIdle closes y = y ≡ closes
IsIdle refuses y = Takes y

takes_idle : (x y : Turn) → Takes x → Takes y → IsIdle x y
takes_idle _ y (taken l ds) q = tt
takes_idle _ y refused_ q = q

begins_takes : (x : Turn) → Takes x → Takes (begins x)
begins_takes _ (taken l ds) = taken _ ds
begins_takes _ refused_ = refused_

either_idle : (b : Bool) (l : Limit) (ds : List Due) (x y : Turn) → IsIdle x y → IsIdle (either b (takes l ds) x) y
either_idle true l ds x y i = tt
either_idle false l ds x y i = i

optional_idle : {A : Type 0} (o : Option A) (f : A → List Due) (x y : Turn) → IsIdle x y → IsIdle (optional o f x) y
optional_idle (Some a) f x y i = tt
optional_idle None f x y i = i

followed_idle : (x : Turn) (more : List Due) → IsIdle x skips → IsIdle (followed x more) skips
followed_idle (takes l ds) more i = tt
followed_idle (makes m) more i = i
followed_idle skips more i = i
followed_idle closes more i = i
followed_idle refuses more i = i

event_idle : (spot : Spot) (k : TokenKind) → IsIdle (turn_event spot k) refuses
event_idle spot (kinds.Name n) = tt
event_idle spot k = refused_

named_idle : (spot : Spot) (k : TokenKind) → IsIdle (turn_named spot k) refuses
named_idle spot (kinds.Name n) = tt
named_idle spot k = refused_

literal_idle : (k : TokenKind) → IsIdle (turn_literal k) refuses
literal_idle (kinds.Number n) = tt
literal_idle (kinds.Symbol symbols.Minus) = tt
literal_idle k = refused_

number_idle : (k : TokenKind) → IsIdle (turn_negated k) refuses
number_idle (kinds.Number n) = tt
number_idle k = refused_

spec_typed_idle : (kind : Kind) (spot : Spot) (k : TokenKind) → IsIdle (turn_spec_typed kind spot k) refuses
spec_typed_idle kind spot (kinds.Name n) = tt
spec_typed_idle kind spot (kinds.Word reserved.Array) = tt
spec_typed_idle kind spot k = refused_

typed_idle : (kind : Kind) (d : ℕ) (spot : Spot) (k : TokenKind) → IsIdle (turn_typed kind d spot k) refuses
typed_idle kind d spot (kinds.Name n) = tt
typed_idle kind d spot (kinds.Word reserved.Array) = tt
typed_idle kind d spot (kinds.Word reserved.Procedure) = tt
typed_idle kind d spot k = refused_

start_idle : (d : ℕ) (spot : Spot) (k : TokenKind) (x y : Turn) → IsIdle x y → IsIdle (turn_start d spot k x) y
start_idle d spot (kinds.Name n) x y i = tt
start_idle d spot (kinds.Word reserved.Cause) x y i = tt
start_idle d spot (kinds.Word reserved.CauseAndReset) x y i = tt
start_idle d spot (kinds.Word reserved.Reset) x y i = tt
start_idle d spot (kinds.Word reserved.Wait) x y i = tt
start_idle d spot (kinds.Word reserved.Procure) x y i = tt
start_idle d spot (kinds.Word reserved.Liberate) x y i = tt
start_idle d spot (kinds.Word reserved.Begin) x y i = tt
start_idle d spot (kinds.Word reserved.If) x y i = tt
start_idle d spot (kinds.Word reserved.While) x y i = tt
start_idle d spot (kinds.Word reserved.Do) x y i = tt
start_idle d spot (kinds.Word reserved.For) x y i = tt
start_idle d spot (kinds.Word reserved.Thru) x y i = tt
start_idle d spot (kinds.Word reserved.Case) x y i = tt
start_idle d spot (kinds.Word reserved.Go) x y i = tt
start_idle d spot (kinds.Word reserved.Process) x y i = tt
start_idle d spot (kinds.Word reserved.Write) x y i = tt
start_idle d spot k x y i = i

behind_idle : (n : Named) (d : ℕ) (k : TokenKind) → IsIdle (turn_behind_start n d k) (turn_behind_start n d kinds.End)
behind_idle n d (kinds.Symbol symbols.Colon) = tt
behind_idle n d (kinds.Symbol symbols.Becomes) = tt
behind_idle n d (kinds.Symbol symbols.OpenSquare) = tt
behind_idle n d (kinds.Symbol symbols.OpenRound) = tt
behind_idle n d k = refl

declaration_idle : (d : ℕ) (k : TokenKind) → IsIdle (turn_declaration d k skips) skips
declaration_idle d (kinds.Word reserved.File) = tt
declaration_idle d (kinds.Word reserved.Event) = tt
declaration_idle d (kinds.Word reserved.Task) = tt
declaration_idle d (kinds.Word reserved.Label) = tt
declaration_idle d (kinds.Word reserved.Array) = tt
declaration_idle d (kinds.Word reserved.Procedure) = tt
declaration_idle d k = optional_idle (type_of k) (λ kind. typed kind d ∷ []) skips skips refl

entered_idle : (d : ℕ) (x : Turn) → StartsAt (d + 1) x → IsIdle (turn_entered d x) refuses
entered_idle d (takes l ds) s = by_limit l
  where
    by_limit : (l : Limit) → IsIdle (turn_entered d (takes l ds)) refuses
    by_limit plain = tt
    by_limit l = tt
entered_idle d (makes m) s = absurd s
entered_idle d skips s = absurd s
entered_idle d closes s = absurd s
entered_idle d refuses s = refused_

body_idle : (d : ℕ) (spot : Spot) (k : TokenKind) → IsIdle (turn_procedure_body d spot k) refuses
body_idle d spot (kinds.Word reserved.Forward) = tt
body_idle d spot (kinds.Symbol symbols.Semicolon) = tt
body_idle d spot k = entered_idle d (turn_start (d + 1) spot k refuses) (starts_at (d + 1) spot k)

idle : (s : Due) (spot : Spot) (k : TokenKind) → IsIdle (reading_turn s spot k) (reading_turn s nowhere kinds.End)
idle (make m) spot k = refl
idle (word w) spot k = either_idle (is_word w k) _ _ refuses refuses refused_
idle (symbol s) spot k = either_idle (is_symbol s k) _ _ refuses refuses refused_
idle (spelled n) spot k = either_idle (is_spelled n k) _ _ refuses refuses refused_
idle (part p d) spot k = takes_idle _ _ (part_takes p d spot k) (part_takes p d nowhere kinds.End)
idle (more_of l d) spot k = subst (λ o. IsIdle (optional (operator l k) (on_with l d) skips) (optional o (on_with l d) skips)) (sym (operator_end l))
    (optional_idle (operator l k) (on_with l d) skips skips refl)
idle (relation d) spot k = optional_idle (relop k) _ skips skips refl
idle (behind_name n d) spot k = either_idle (is_symbol symbols.OpenSquare k) _ _ _ _ (either_idle (is_symbol symbols.OpenRound k) _ _ _ _ refl)
idle (exprs_more d) spot k = either_idle (is_symbol symbols.Comma k) _ _ skips skips refl
idle (opening s d) spot k = either_idle (is_symbol s k) _ _ refuses refuses refused_
idle event spot k = event_idle spot k
idle events_more spot k = either_idle (is_symbol symbols.Comma k) _ _ _ _ refl
idle (behind_event n) spot k = either_idle (is_symbol symbols.Period k) _ _ _ _ refl
idle (whole d) spot k = takes_idle _ _ (begins_takes _ (followed_takes (turn_expr d spot k) (whole_ends ∷ []) (part_takes expr d spot k)))
    (begins_takes _ (followed_takes (turn_expr d nowhere kinds.End) (whole_ends ∷ []) (part_takes expr d nowhere kinds.End)))
idle whole_ends spot k = refl
idle named spot k = named_idle spot k
idle names_more spot k = either_idle (is_symbol symbols.Comma k) _ _ skips skips refl
idle printer_part spot k = either_idle (is_symbol symbols.OpenRound k) _ _ skips skips refl
idle files_more spot k = either_idle (is_symbol symbols.Comma k) _ _ skips skips refl
idle literal spot k = literal_idle k
idle number_negated spot k = number_idle k
idle lows_more spot k = either_idle (is_symbol symbols.Comma k) _ _ skips skips refl
idle values_part spot k = either_idle (is_word reserved.Value k) _ _ _ _ refl
idle spec spot k = optional_idle (type_of k) _ _ _ (either_idle (is_word reserved.Event k) _ _ _ _ (either_idle (is_word reserved.Array k) _ _ refuses refuses refused_))
idle (spec_typed kind) spot k = spec_typed_idle kind spot k
idle specs_more spot k = followed_idle _ (specs_more ∷ [])
    (optional_idle (type_of k) _ _ _ (either_idle (is_word reserved.Event k) _ _ _ _ (either_idle (is_word reserved.Array k) _ _ skips skips refl)))
idle (behind_procedure kind) spot k = either_idle (is_symbol symbols.Semicolon k) _ _ _ _ (either_idle (is_symbol symbols.OpenRound k) _ _ refuses refuses refused_)
idle wholes_more spot k = either_idle (is_symbol symbols.Comma k) _ _ skips skips refl
idle actuals_part spot k = either_idle (is_symbol symbols.OpenRound k) _ _ _ _ refl
idle items_part spot k = either_idle (is_symbol symbols.Comma k) _ _ _ _ refl
idle pairs_more spot k = either_idle (is_symbol symbols.Comma k) _ _ skips skips refl
idle (segments_more kind) spot k = either_idle (is_symbol symbols.Comma k) _ _ skips skips refl
idle task_part spot k = either_idle (is_symbol symbols.OpenSquare k) _ _ _ _ refl
idle to_part spot k = either_idle (is_word reserved.To k) _ _ skips skips refl
idle angle spot k = either_idle (is_symbol symbols.Less k) _ _ refuses refuses refused_
idle phrase spot k = optional_idle (phrase_of k) _ refuses refuses refused_
idle phrases_more spot k = either_idle (is_symbol symbols.Comma k) _ _ skips skips refl
idle (statement d) spot k = start_idle d spot k (makes (value_put (stmt trees.empty))) (makes (value_put (stmt trees.empty))) refl
idle (behind_start n d) spot k = behind_idle n d k
idle (else_part d) spot k = either_idle (is_word reserved.Else k) _ _ _ _ refl
idle (stmts_more d) spot k = either_idle (is_symbol symbols.Semicolon k) _ _ skips skips refl
idle (declarations d) spot k = followed_idle (turn_declaration d k skips) (declarations d ∷ []) (declaration_idle d k)
idle (typed kind d) spot k = typed_idle kind d spot k
idle (procedure_body d) spot k = body_idle d spot k
idle program spot k = either_idle (is_word reserved.Begin k) _ _ refuses refuses refused_

pub never_over : (a b : Bool) (here at : Spot) (n c : Count) (ds : List Due) (us ws : List Value) → unless a here (unless b at (goes n ds us)) ≡ over c ws → ⊥
never_over true b here at n c ds us ws e = cc
never_over false true here at n c ds us ws e = cc
never_over false false here at n c ds us ws e = cc

-- so the text does not end there
pub cut_short : (due : List Due) (here : Spot) (k : TokenKind) (c : Count) (vs : List Value) (spot : Spot) → step strict due here k c vs ≡ stops spot codes.Unexpected →
    (n : Count) (ws : List Value) → step unjudged due nowhere kinds.End c vs ≡ over n ws → ⊥
cut_short [] here k c vs spot e n ws o = cc
cut_short (s ∷ due) here k c vs spot e n ws o = by_turn (reading_turn s here k) (reading_turn s nowhere kinds.End) (idle s here k) e o (λ c vs e o. cut_short due here k c vs spot e n ws o)
  where
    over_takes : (y : Turn) → Takes y → stepped unjudged c nowhere y due vs (step unjudged due nowhere kinds.End) ≡ over n ws → ⊥
    over_takes _ (taken l ds) o = never_over (full c && false) (limit_broken l unjudged) nowhere (broken_at l nowhere) (limit_counted l c) n (ds ++ due) vs ws o
    over_takes _ refused_ o = cc

    by_turn : (x y : Turn) → IsIdle x y → stepped strict c here x due vs (step strict due here k) ≡ stops spot codes.Unexpected →
        stepped unjudged c nowhere y due vs (step unjudged due nowhere kinds.End) ≡ over n ws →
        ((c : Count) (vs : List Value) → step strict due here k c vs ≡ stops spot codes.Unexpected → step unjudged due nowhere kinds.End c vs ≡ over n ws → ⊥) → ⊥
    by_turn (takes l ds) y i e o again = unless_not (full c && true) (limit_broken l strict) here (broken_at l here) spot (limit_counted l c) (ds ++ due) vs e
    by_turn (makes m) y i e o again =
        again c (m vs) e (subst (λ y. stepped unjudged c nowhere y due vs (step unjudged due nowhere kinds.End) ≡ over n ws) i o)
    by_turn skips y i e o again = again c vs e (subst (λ y. stepped unjudged c nowhere y due vs (step unjudged due nowhere kinds.End) ≡ over n ws) i o)
    by_turn closes y i e o again = again outside vs e (subst (λ y. stepped unjudged c nowhere y due vs (step unjudged due nowhere kinds.End) ≡ over n ws) i o)
    by_turn refuses y i e o again = over_takes y i o

-- and what may be left out at a token, may be at the end of the text
pub over_idle : (due : List Due) (here : Spot) (k : TokenKind) (c : Count) (vs : List Value) (n : Count) (ws : List Value) → step strict due here k c vs ≡ over n ws →
    step unjudged due nowhere kinds.End c vs ≡ over n ws
over_idle [] here k c vs n ws e = e
over_idle (s ∷ due) here k c vs n ws e = by_turn (reading_turn s here k) (reading_turn s nowhere kinds.End) (idle s here k) e (λ c vs e. over_idle due here k c vs n ws e)
  where
    by_turn : (x y : Turn) → IsIdle x y → stepped strict c here x due vs (step strict due here k) ≡ over n ws →
        ((c : Count) (vs : List Value) → step strict due here k c vs ≡ over n ws → step unjudged due nowhere kinds.End c vs ≡ over n ws) →
        stepped unjudged c nowhere y due vs (step unjudged due nowhere kinds.End) ≡ over n ws
    by_turn (takes l ds) y i e again = absurd (never_over (full c && true) (limit_broken l strict) here (broken_at l here) (limit_counted l c) n (ds ++ due) vs ws e)
    by_turn (makes m) y i e again = subst (λ y. stepped unjudged c nowhere y due vs (step unjudged due nowhere kinds.End) ≡ over n ws) (sym i) (again c (m vs) e)
    by_turn skips y i e again = subst (λ y. stepped unjudged c nowhere y due vs (step unjudged due nowhere kinds.End) ≡ over n ws) (sym i) (again c vs e)
    by_turn closes y i e again = subst (λ y. stepped unjudged c nowhere y due vs (step unjudged due nowhere kinds.End) ≡ over n ws) (sym i) (again outside vs e)
    by_turn refuses y i e again = cc
