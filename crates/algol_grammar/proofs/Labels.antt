-- What follows a name tells whether it is a label. What is due after such a name stands first only, and the name is the newest token.
use Rattle.std.proofs.Common.{◌≡◌, ◌+◌, ℕ, Bool, true, false, ◌&&◌, List, [], ◌∷◌, ◌++◌, Option, Some, None, refl, subst}
use Rattle.algol_tree.specs.declared.token.Spot.{Spot}
use Rattle.algol_tree.specs.declared.token.TokenKind.{TokenKind}
use Rattle.algol_tree.specs.declared.token.TokenKind.TheVariants as kinds
use Rattle.algol_tree.specs.declared.token.Reserved.TheVariants as reserved
use Rattle.algol_tree.specs.declared.token.Symbol.TheVariants as symbols
use Rattle.algol_tree.specs.declared.tree.Named.{Named}
use Rattle.algol_tree.specs.declared.tree.Kind.{Kind}
use Rattle.algol_tree.specs.Plain as trees
use Rattle.algol_tree.specs.Tokens.{is_word, is_symbol}
use Rattle.algol_tree.specs.Headings.{type_of}
use Rattle.algol_tree.specs.Statements.{phrase_of}
use Rattle.algol_tree.specs.Operators.{expr}
use Rattle.algol_tree.specs.Due.{Value, stmt, value_put, Make, Due, make, word, symbol, spelled, part, more_of, relation, behind_name, exprs_more, opening, event, events_more, behind_event, whole, whole_ends, named, names_more, printer_part, files_more, literal, number_negated, lows_more, values_part, spec, spec_typed, specs_more, behind_procedure, wholes_more, actuals_part, items_part, pairs_more, segments_more, task_part, to_part, angle, phrase, phrases_more, statement, behind_start, else_part, stmts_more, declarations, typed, procedure_body, program, Limit, plain, nests, label, begun, Turn, takes, makes, skips, closes, refuses, followed, begins, either, optional}
use Rattle.algol_tree.specs.DueExpr.{turn_expr}
use Rattle.algol_tree.specs.DueDecl.{turn_named, turn_literal, turn_negated, turn_spec, turn_spec_typed}
use Rattle.algol_tree.specs.DueStmt.{with_body, turn_start, turn_behind_start, turn_typed, turn_declaration, turn_entered, turn_procedure_body}
use Rattle.algol_tree.specs.Reading.{reading_turn, Count, outside, full, limit_counted, Judged, limit_broken, broken_at, goes, unless, stepped, step}
use Rattle.algol_expr.proofs.Inner.{IsInner, Inners, Stays, inner_stays}
use Rattle.algol_expr.proofs.Steps.{unless_goes, goes_is}
use Rattle.b67_list.proofs.Truths.{and_both}

-- no name stands before it
abbrev pub is_fresh : Due → Bool
is_fresh (behind_start n d) = false
is_fresh s = true

abbrev pub all_fresh : List Due → Bool
all_fresh [] = true
all_fresh (s ∷ due) = is_fresh s && all_fresh due

fresh_append : (a b : List Due) → all_fresh a ≡ true → all_fresh b ≡ true → all_fresh (a ++ b) ≡ true
fresh_append [] b x y = y
fresh_append (s ∷ a) b x y = let p = and_both (is_fresh s) (all_fresh a) x in rw (p.0, fresh_append a b p.1 y) refl

-- what is due after a token at that spot
pub data Behind (spot : Spot) : List Due → Type 0 where
  fresh : (due : List Due) → all_fresh due ≡ true → Behind spot due
  a_name : (n : Named) (d : ℕ) (due : List Due) → n.spot ≡ spot → all_fresh due ≡ true → Behind spot (behind_start n d ∷ due)

behind_append : (spot : Spot) (ds due : List Due) → Behind spot ds → all_fresh due ≡ true → Behind spot (ds ++ due)
behind_append spot _ due (fresh ds x) y = fresh (ds ++ due) (fresh_append ds due x y)
behind_append spot _ due (a_name n d ds e x) y = a_name n d (ds ++ due) e (fresh_append ds due x y)

-- a token that has to keep such a limit opens a level itself, if any
abbrev pub is_own : Limit → Bool
is_own plain = true
is_own (nests d) = true
is_own (label d spot) = false
is_own (begun l) = is_own l

-- a turn at a token at that spot
pub data Calm (spot : Spot) : Turn → Type 0 where
  takes_on : (l : Limit) (ds : List Due) → is_own l ≡ true → Behind spot ds → Calm spot (takes l ds)
  makes_on : (m : Make) → Calm spot (makes m)
  skips_on : Calm spot skips
  closes_on : Calm spot closes
  refuses_on : Calm spot refuses

-- the same, where no name is taken that may be a label
abbrev is_calm : Turn → Bool
is_calm (takes l ds) = is_own l && all_fresh ds
is_calm x = true

calm : (spot : Spot) (x : Turn) → is_calm x ≡ true → Calm spot x
calm spot (takes l ds) e = let p = and_both (is_own l) (all_fresh ds) e in takes_on l ds p.0 (fresh ds p.1)
calm spot (makes m) e = makes_on m
calm spot skips e = skips_on
calm spot closes e = closes_on
calm spot refuses e = refuses_on

inner_fresh : (s : Due) → IsInner s → is_fresh s ≡ true
inner_fresh (behind_start n d) i = absurd i
inner_fresh s i = refl

inners_fresh : (due : List Due) → Inners due → all_fresh due ≡ true
inners_fresh [] i = refl
inners_fresh (s ∷ due) i = rw (inner_fresh s i.0, inners_fresh due i.1) refl

stays_calm : (x : Turn) → Stays x → is_calm x ≡ true
stays_calm (takes plain ds) i = inners_fresh ds i
stays_calm (takes (nests d) ds) i = inners_fresh ds i
stays_calm (takes (label d spot) ds) i = absurd i
stays_calm (takes (begun l) ds) i = absurd i
stays_calm x i = refl

inner_calm : (s : Due) (spot : Spot) (k : TokenKind) → IsInner s → Calm spot (reading_turn s spot k)
inner_calm s spot k i = calm spot (reading_turn s spot k) (stays_calm (reading_turn s spot k) (inner_stays s spot k i))

either_calm : (b : Bool) (x y : Turn) → is_calm x ≡ true → is_calm y ≡ true → is_calm (either b x y) ≡ true
either_calm true x y p q = p
either_calm false x y p q = q

optional_calm : {A : Type 0} (o : Option A) (f : A → List Due) (x : Turn) → ((a : A) → all_fresh (f a) ≡ true) → is_calm x ≡ true → is_calm (optional o f x) ≡ true
optional_calm (Some a) f x p q = p a
optional_calm None f x p q = q

followed_calm : (x : Turn) (more : List Due) → is_calm x ≡ true → all_fresh more ≡ true → is_calm (followed x more) ≡ true
followed_calm (takes l ds) more x y = let p = and_both (is_own l) (all_fresh ds) x in rw (p.0, fresh_append ds more p.1 y) refl
followed_calm x more y z = refl

begins_calm : (x : Turn) → is_calm x ≡ true → is_calm (begins x) ≡ true
begins_calm (takes l ds) e = e
begins_calm x e = refl

named_calm : (spot : Spot) (k : TokenKind) → is_calm (turn_named spot k) ≡ true
named_calm spot (kinds.Name n) = refl
named_calm spot k = refl

literal_calm : (k : TokenKind) → is_calm (turn_literal k) ≡ true
literal_calm (kinds.Number n) = refl
literal_calm (kinds.Symbol symbols.Minus) = refl
literal_calm k = refl

number_calm : (k : TokenKind) → is_calm (turn_negated k) ≡ true
number_calm (kinds.Number n) = refl
number_calm k = refl

spec_calm : (k : TokenKind) (otherwise : Turn) → is_calm otherwise ≡ true → is_calm (turn_spec k otherwise) ≡ true
spec_calm k otherwise q = optional_calm (type_of k) _ _ (λ kind. refl)
    (either_calm (is_word reserved.Event k) _ _ refl (either_calm (is_word reserved.Array k) _ _ refl q))

spec_typed_calm : (kind : Kind) (spot : Spot) (k : TokenKind) → is_calm (turn_spec_typed kind spot k) ≡ true
spec_typed_calm kind spot (kinds.Name n) = refl
spec_typed_calm kind spot (kinds.Word reserved.Array) = refl
spec_typed_calm kind spot k = refl

typed_calm : (kind : Kind) (d : ℕ) (spot : Spot) (k : TokenKind) → is_calm (turn_typed kind d spot k) ≡ true
typed_calm kind d spot (kinds.Name n) = refl
typed_calm kind d spot (kinds.Word reserved.Array) = refl
typed_calm kind d spot (kinds.Word reserved.Procedure) = refl
typed_calm kind d spot k = refl

declaration_calm : (d : ℕ) (k : TokenKind) → is_calm (turn_declaration d k skips) ≡ true
declaration_calm d (kinds.Word reserved.File) = refl
declaration_calm d (kinds.Word reserved.Event) = refl
declaration_calm d (kinds.Word reserved.Task) = refl
declaration_calm d (kinds.Word reserved.Label) = refl
declaration_calm d (kinds.Word reserved.Array) = refl
declaration_calm d (kinds.Word reserved.Procedure) = refl
declaration_calm d k = optional_calm (type_of k) (λ kind. typed kind d ∷ []) skips (λ kind. refl) refl

-- only here a name is taken that may be a label
start_calm : (d : ℕ) (spot : Spot) (k : TokenKind) (otherwise : Turn) → Calm spot otherwise → Calm spot (turn_start d spot k otherwise)
start_calm d spot (kinds.Name n) otherwise q = takes_on plain _ refl (a_name (record { name = n; spot = spot }) d [] refl refl)
start_calm d spot (kinds.Word reserved.Cause) otherwise q = calm spot _ refl
start_calm d spot (kinds.Word reserved.CauseAndReset) otherwise q = calm spot _ refl
start_calm d spot (kinds.Word reserved.Reset) otherwise q = calm spot _ refl
start_calm d spot (kinds.Word reserved.Wait) otherwise q = calm spot _ refl
start_calm d spot (kinds.Word reserved.Procure) otherwise q = calm spot _ refl
start_calm d spot (kinds.Word reserved.Liberate) otherwise q = calm spot _ refl
start_calm d spot (kinds.Word reserved.Begin) otherwise q = calm spot _ refl
start_calm d spot (kinds.Word reserved.If) otherwise q = calm spot _ refl
start_calm d spot (kinds.Word reserved.While) otherwise q = calm spot _ refl
start_calm d spot (kinds.Word reserved.Do) otherwise q = calm spot _ refl
start_calm d spot (kinds.Word reserved.For) otherwise q = calm spot _ refl
start_calm d spot (kinds.Word reserved.Thru) otherwise q = calm spot _ refl
start_calm d spot (kinds.Word reserved.Case) otherwise q = calm spot _ refl
start_calm d spot (kinds.Word reserved.Go) otherwise q = calm spot _ refl
start_calm d spot (kinds.Word reserved.Process) otherwise q = calm spot _ refl
start_calm d spot (kinds.Word reserved.Write) otherwise q = calm spot _ refl
start_calm d spot k otherwise q = q

entered_calm : (d : ℕ) (spot : Spot) (x : Turn) → Calm spot x → Calm spot (turn_entered d x)
entered_calm d spot _ (takes_on plain ds o b) = takes_on (nests d) _ refl (behind_append spot ds (make with_body ∷ symbol symbols.Semicolon ∷ []) b refl)
entered_calm d spot _ (takes_on (nests n) ds o b) = takes_on (nests n) _ o (behind_append spot ds (make with_body ∷ symbol symbols.Semicolon ∷ []) b refl)
entered_calm d spot _ (takes_on (label n at) ds o b) = cc
entered_calm d spot _ (takes_on (begun l) ds o b) = takes_on (begun l) _ o (behind_append spot ds (make with_body ∷ symbol symbols.Semicolon ∷ []) b refl)
entered_calm d spot _ (makes_on m) = makes_on m
entered_calm d spot _ skips_on = skips_on
entered_calm d spot _ closes_on = closes_on
entered_calm d spot _ refuses_on = refuses_on

body_calm : (d : ℕ) (spot : Spot) (k : TokenKind) → Calm spot (turn_procedure_body d spot k)
body_calm d spot (kinds.Word reserved.Forward) = calm spot _ refl
body_calm d spot (kinds.Symbol symbols.Semicolon) = calm spot _ refl
body_calm d spot k = entered_calm d spot (turn_start (d + 1) spot k refuses) (start_calm (d + 1) spot k refuses refuses_on)

pub turn_calm : (s : Due) (spot : Spot) (k : TokenKind) → is_fresh s ≡ true → Calm spot (reading_turn s spot k)
turn_calm (make m) spot k f = makes_on m
turn_calm (word w) spot k f = inner_calm (word w) spot k tt
turn_calm (symbol s) spot k f = inner_calm (symbol s) spot k tt
turn_calm (spelled n) spot k f = inner_calm (spelled n) spot k tt
turn_calm (part p d) spot k f = inner_calm (part p d) spot k tt
turn_calm (more_of l d) spot k f = inner_calm (more_of l d) spot k tt
turn_calm (relation d) spot k f = inner_calm (relation d) spot k tt
turn_calm (behind_name n d) spot k f = inner_calm (behind_name n d) spot k tt
turn_calm (exprs_more d) spot k f = inner_calm (exprs_more d) spot k tt
turn_calm (opening s d) spot k f = inner_calm (opening s d) spot k tt
turn_calm event spot k f = inner_calm event spot k tt
turn_calm events_more spot k f = inner_calm events_more spot k tt
turn_calm (behind_event n) spot k f = inner_calm (behind_event n) spot k tt
turn_calm (whole d) spot k f =
    let e : is_calm (turn_expr d spot k) ≡ true = stays_calm (turn_expr d spot k) (inner_stays (part expr d) spot k tt) in
    calm spot _ (begins_calm (followed (turn_expr d spot k) (whole_ends ∷ [])) (followed_calm (turn_expr d spot k) (whole_ends ∷ []) e refl))
turn_calm whole_ends spot k f = closes_on
turn_calm named spot k f = calm spot _ (named_calm spot k)
turn_calm names_more spot k f = calm spot _ (either_calm (is_symbol symbols.Comma k) _ _ refl refl)
turn_calm printer_part spot k f = calm spot _ (either_calm (is_symbol symbols.OpenRound k) _ _ refl refl)
turn_calm files_more spot k f = calm spot _ (either_calm (is_symbol symbols.Comma k) _ _ refl refl)
turn_calm literal spot k f = calm spot _ (literal_calm k)
turn_calm number_negated spot k f = calm spot _ (number_calm k)
turn_calm lows_more spot k f = calm spot _ (either_calm (is_symbol symbols.Comma k) _ _ refl refl)
turn_calm values_part spot k f = calm spot _ (either_calm (is_word reserved.Value k) _ _ refl refl)
turn_calm spec spot k f = calm spot _ (spec_calm k refuses refl)
turn_calm (spec_typed kind) spot k f = calm spot _ (spec_typed_calm kind spot k)
turn_calm specs_more spot k f = calm spot _ (followed_calm (turn_spec k skips) (specs_more ∷ []) (spec_calm k skips refl) refl)
turn_calm (behind_procedure kind) spot k f = calm spot _ (either_calm (is_symbol symbols.Semicolon k) _ _ refl (either_calm (is_symbol symbols.OpenRound k) _ _ refl refl))
turn_calm wholes_more spot k f = calm spot _ (either_calm (is_symbol symbols.Comma k) _ _ refl refl)
turn_calm actuals_part spot k f = calm spot _ (either_calm (is_symbol symbols.OpenRound k) _ _ refl refl)
turn_calm items_part spot k f = calm spot _ (either_calm (is_symbol symbols.Comma k) _ _ refl refl)
turn_calm pairs_more spot k f = calm spot _ (either_calm (is_symbol symbols.Comma k) _ _ refl refl)
turn_calm (segments_more kind) spot k f = calm spot _ (either_calm (is_symbol symbols.Comma k) _ _ refl refl)
turn_calm task_part spot k f = calm spot _ (either_calm (is_symbol symbols.OpenSquare k) _ _ refl refl)
turn_calm to_part spot k f = calm spot _ (either_calm (is_word reserved.To k) _ _ refl refl)
turn_calm angle spot k f = calm spot _ (either_calm (is_symbol symbols.Less k) _ _ refl refl)
turn_calm phrase spot k f = calm spot _ (optional_calm (phrase_of k) _ refuses (λ p. refl) refl)
turn_calm phrases_more spot k f = calm spot _ (either_calm (is_symbol symbols.Comma k) _ _ refl refl)
turn_calm (statement d) spot k f = start_calm d spot k (makes (value_put (stmt trees.empty))) (makes_on _)
turn_calm (behind_start n d) spot k f = cc
turn_calm (else_part d) spot k f = calm spot _ (either_calm (is_word reserved.Else k) _ _ refl refl)
turn_calm (stmts_more d) spot k f = calm spot _ (either_calm (is_symbol symbols.Semicolon k) _ _ refl refl)
turn_calm (declarations d) spot k f = calm spot _ (followed_calm (turn_declaration d k skips) (declarations d ∷ []) (declaration_calm d k) refl)
turn_calm (typed kind d) spot k f = calm spot _ (typed_calm kind d spot k)
turn_calm (procedure_body d) spot k f = body_calm d spot k
turn_calm program spot k f = calm spot _ (either_calm (is_word reserved.Begin k) _ _ refl refl)

-- the turn after a name
pub data AtName (n : Named) (d : ℕ) : Turn → Type 0 where
  is_label : (ds : List Due) → all_fresh ds ≡ true → AtName n d (takes (label d n.spot) ds)
  is_none : (ds : List Due) → all_fresh ds ≡ true → AtName n d (takes plain ds)
  is_alone : (m : Make) → AtName n d (makes m)

pub name_turn : (n : Named) (d : ℕ) (k : TokenKind) → AtName n d (turn_behind_start n d k)
name_turn n d (kinds.Symbol symbols.Colon) = is_label _ refl
name_turn n d (kinds.Symbol symbols.Becomes) = is_none _ refl
name_turn n d (kinds.Symbol symbols.OpenSquare) = is_none _ refl
name_turn n d (kinds.Symbol symbols.OpenRound) = is_none _ refl
name_turn n d k = is_alone _

-- where a token is gone over

taken_behind : (j : Judged) (c n : Count) (spot : Spot) (l : Limit) (es due ds : List Due) (vs us : List Value) → Behind spot es → all_fresh due ≡ true →
    unless (full c && j.here) spot (unless (limit_broken l j) (broken_at l spot) (goes (limit_counted l c) (es ++ due) vs)) ≡ goes n ds us → Behind spot ds
taken_behind j c n spot l es due ds vs us b f e =
    let p = unless_goes (full c && j.here) spot (unless (limit_broken l j) (broken_at l spot) (goes (limit_counted l c) (es ++ due) vs)) n ds us e in
    let q = unless_goes (limit_broken l j) (broken_at l spot) (goes (limit_counted l c) (es ++ due) vs) n ds us p.1 in
    subst (Behind spot) (goes_is (limit_counted l c) n (es ++ due) ds vs us q.1).1 (behind_append spot es due b f)

fresh_goes : (j : Judged) (due : List Due) (spot : Spot) (k : TokenKind) (c : Count) (vs : List Value) (n : Count) (ds : List Due) (us : List Value) → all_fresh due ≡ true →
    step j due spot k c vs ≡ goes n ds us → Behind spot ds
fresh_goes j [] spot k c vs n ds us f e = cc
fresh_goes j (s ∷ due) spot k c vs n ds us f e = let p = and_both (is_fresh s) (all_fresh due) f in
    by_turn (reading_turn s spot k) (turn_calm s spot k p.0) p.1 e (λ c vs e. fresh_goes j due spot k c vs n ds us p.1 e)
  where
    by_turn : (x : Turn) → Calm spot x → all_fresh due ≡ true → stepped j c spot x due vs (step j due spot k) ≡ goes n ds us →
        ((c : Count) (vs : List Value) → step j due spot k c vs ≡ goes n ds us → Behind spot ds) → Behind spot ds
    by_turn _ (takes_on l es o b) f e again = taken_behind j c n spot l es due ds vs us b f e
    by_turn _ (makes_on m) f e again = again c (m vs) e
    by_turn _ skips_on f e again = again c vs e
    by_turn _ closes_on f e again = again outside vs e
    by_turn _ refuses_on f e again = cc

pub step_behind : (j : Judged) (before : Spot) (due : List Due) (spot : Spot) (k : TokenKind) (c : Count) (vs : List Value) (n : Count) (ds : List Due) (us : List Value) →
    Behind before due → step j due spot k c vs ≡ goes n ds us → Behind spot ds
step_behind j before _ spot k c vs n ds us (fresh due f) e = fresh_goes j due spot k c vs n ds us f e
step_behind j before _ spot k c vs n ds us (a_name name d due is f) e = by_turn (turn_behind_start name d k) (name_turn name d k) e
  where
    by_turn : (x : Turn) → AtName name d x → stepped j c spot x due vs (step j due spot k) ≡ goes n ds us → Behind spot ds
    by_turn _ (is_label es x) e = taken_behind j c n spot (label d name.spot) es due ds vs us (fresh es x) f e
    by_turn _ (is_none es x) e = taken_behind j c n spot plain es due ds vs us (fresh es x) f e
    by_turn _ (is_alone m) e = fresh_goes j due spot k c (m vs) n ds us f e
