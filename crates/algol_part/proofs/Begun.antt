-- The first token of a statement and of a declaration.
use Rattle.std.proofs.Common.{◌≡◌, ◌≤◌, ◌<◌, ◌+◌, ℕ, Bool, true, false, List, [], ◌∷◌, ◌++◌, length, Option, Some, None, refl, sym, subst, ap, ◌∙◌, inl, append_assoc, arith}
use Rattle.algol_tree.specs.declared.TheConstants.{MOST_NESTING}
use Rattle.algol_tree.specs.declared.token.Spot.{Spot}
use Rattle.algol_tree.specs.declared.token.Token.{Token}
use Rattle.algol_tree.specs.declared.token.TokenKind.{TokenKind}
use Rattle.algol_tree.specs.declared.token.TokenKind.TheVariants as kinds
use Rattle.algol_tree.specs.declared.token.Reserved.TheVariants as reserved
use Rattle.algol_tree.specs.declared.token.Symbol.TheVariants as symbols
use Rattle.algol_tree.specs.declared.tree.Named.{Named}
use Rattle.algol_tree.specs.declared.tree.Kind.{Kind}
use Rattle.algol_tree.specs.declared.tree.Kind.TheVariants as types
use Rattle.algol_tree.specs.declared.refusal.Code.TheVariants as codes
use Rattle.algol_tree.specs.declared.refusal.Refusal.{Refusal}
use Rattle.algol_tree.specs.declared.refusal.Refusal.TheVariants.{At}
use Rattle.algol_tree.specs.Plain as trees
use Rattle.algol_tree.specs.Plain.{called, none, no_decls}
use Rattle.algol_tree.specs.Tokens.{is_word, is_symbol, name_in}
use Rattle.algol_tree.specs.Headings.{type_of}
use Rattle.algol_tree.specs.Due as due
use Rattle.algol_tree.specs.Due.{Value, value_put, stmt, list, declared, Due, make, word, symbol, whole, statement, else_part, behind_start, actuals_part, stmts_more, declarations, typed, procedure_body, plain, nests, label, takes, makes, skips, refuses, Turn, followed, either}
use Rattle.algol_tree.specs.DueStmt.{labelled, assigned, calling, wholes_in, turn_statement, turn_behind_start, turn_declarations, turn_typed, two_armed, one_armed, stmt_added, names_declared, segment_in, procedure_in, with_body, announced, turn_procedure_body, programmed}
use Rattle.algol_tree.specs.Reading.{reading_turn, outside, read}
use Rattle.algol_tree.specs.Found.{ReaderRefuses}
use Rattle.algol_expr.proofs.Turns.{word_from, symbol_from, opens_step, label_step, deep_label_step, makes_step, make_step, takes_step, symbol_step}
use Rattle.algol_expr.proofs.Chain.{Reaches}
use Rattle.algol_part.specs.declared.start.Start.{Start}
use Rattle.algol_part.specs.declared.start.Start.TheVariants as starts
use Rattle.algol_part.specs.Starts.{start_of, begins_body}
use Rattle.algol_part.specs.Openings.{behind_word, behind_verb}
use Rattle.algol_tree.specs.DueDecl.{names_in_list}
use Rattle.algol_part.specs.declared.declaration.Listed.{Listed}
use Rattle.algol_part.specs.Phrases.{element_in, lists_names, listed_by, listed_in}
use Rattle.algol_expr.proofs.Reading.{Takes, taken, read_at}
use Rattle.algol_expr.proofs.Starts.{name_is}
use Rattle.algol_part.proofs.Chains.{here, too_deep_here}
use Rattle.algol_part.proofs.Specs.{names_there}

-- after a level that is opened
pub opens_with : {tokens : List Token} {t : Token} {ts : List Token} → tokens ≡ t ∷ ts → (d i : ℕ) (s : Due) (es : ℕ → List Due) {us : List Value} →
    reading_turn s t.spot t.kind ≡ takes (nests d) (es (d + 1)) → d < MOST_NESTING → i ≡ d + 1 → Reaches (s ∷ []) us tokens (es i) us ts
opens_with {tokens = tokens} {t = t} {ts = ts} at_ d i s es {us = us} q o is = subst (λ i. Reaches (s ∷ []) us tokens (es i) us ts) (sym is) (record {
  run = λ due_ vs. ap (λ x. read 0 x (s ∷ due_) (us ++ vs)) at_ ∙ opens_step 0 d t ts s (es (d + 1)) due_ (us ++ vs) q (inl o);
})

abbrev pub by_start : ℕ → Spot → Start → Option Turn
by_start d spot (starts.Opens opener) = Some (takes (nests d) (behind_word opener spot (d + 1)))
by_start d spot (starts.Acts verb) = Some (takes plain (behind_verb verb))
by_start d spot starts.Nothing = None

abbrev Starts : Option Turn → Turn → Type 0
Starts (Some x) y = y ≡ x
Starts None y = Unit

start_turns : (d : ℕ) (spot : Spot) (k : TokenKind) → Starts (by_start d spot (start_of k)) (turn_statement d spot k)
start_turns d spot (kinds.Word reserved.Begin) = refl
start_turns d spot (kinds.Word reserved.If) = refl
start_turns d spot (kinds.Word reserved.While) = refl
start_turns d spot (kinds.Word reserved.Do) = refl
start_turns d spot (kinds.Word reserved.For) = refl
start_turns d spot (kinds.Word reserved.Thru) = refl
start_turns d spot (kinds.Word reserved.Case) = refl
start_turns d spot (kinds.Word reserved.Go) = refl
start_turns d spot (kinds.Word reserved.Process) = refl
start_turns d spot (kinds.Word reserved.Write) = refl
start_turns d spot (kinds.Word reserved.Cause) = refl
start_turns d spot (kinds.Word reserved.CauseAndReset) = refl
start_turns d spot (kinds.Word reserved.Reset) = refl
start_turns d spot (kinds.Word reserved.Wait) = refl
start_turns d spot (kinds.Word reserved.Procure) = refl
start_turns d spot (kinds.Word reserved.Liberate) = refl
start_turns d spot k = tt

pub starting : (d : ℕ) {tokens : List Token} {t : Token} {ts : List Token} → tokens ≡ t ∷ ts → (s : Start) → start_of t.kind ≡ s → (x : Turn) → by_start d t.spot s ≡ Some x →
    reading_turn (statement d) t.spot t.kind ≡ x
starting d {t = t} at_ s e x p = subst (λ o. Starts o (turn_statement d t.spot t.kind)) (ap (by_start d t.spot) e ∙ p) (start_turns d t.spot t.kind)

pub not_end_start : (k : TokenKind) (s : Start) → start_of k ≡ s → (starts.Nothing ≡ s → ⊥) → k ≡ kinds.End → ⊥
not_end_start k s e f q = f (sym (ap start_of q) ∙ e)

abbrev Empties : Option (List ℕ) → Start → Turn → Type 0
Empties None starts.Nothing x = x ≡ makes (value_put (stmt trees.empty))
Empties name s x = Unit

empty_turns : (d : ℕ) (spot : Spot) (k : TokenKind) → Empties (name_in k) (start_of k) (turn_statement d spot k)
empty_turns d spot (kinds.Name name) = tt
empty_turns d spot (kinds.Word reserved.Begin) = tt
empty_turns d spot (kinds.Word reserved.If) = tt
empty_turns d spot (kinds.Word reserved.While) = tt
empty_turns d spot (kinds.Word reserved.Do) = tt
empty_turns d spot (kinds.Word reserved.For) = tt
empty_turns d spot (kinds.Word reserved.Thru) = tt
empty_turns d spot (kinds.Word reserved.Case) = tt
empty_turns d spot (kinds.Word reserved.Go) = tt
empty_turns d spot (kinds.Word reserved.Process) = tt
empty_turns d spot (kinds.Word reserved.Write) = tt
empty_turns d spot (kinds.Word reserved.Cause) = tt
empty_turns d spot (kinds.Word reserved.CauseAndReset) = tt
empty_turns d spot (kinds.Word reserved.Reset) = tt
empty_turns d spot (kinds.Word reserved.Wait) = tt
empty_turns d spot (kinds.Word reserved.Procure) = tt
empty_turns d spot (kinds.Word reserved.Liberate) = tt
empty_turns d spot k = refl

pub empty_here : (d : ℕ) {tokens : List Token} {t : Token} {ts : List Token} → tokens ≡ t ∷ ts → name_in t.kind ≡ None → start_of t.kind ≡ starts.Nothing →
    reading_turn (statement d) t.spot t.kind ≡ makes (value_put (stmt trees.empty))
empty_here d {t = t} at_ e f = subst (λ name. Empties name starts.Nothing (turn_statement d t.spot t.kind)) e
    (subst (λ s. Empties (name_in t.kind) s (turn_statement d t.spot t.kind)) f (empty_turns d t.spot t.kind))

pub name_begins : (d : ℕ) {tokens : List Token} {t : Token} {ts : List Token} → tokens ≡ t ∷ ts → (n : Named) (name : List ℕ) → name_in t.kind ≡ Some name →
    (n.name ≡ name) × (n.spot ≡ t.spot) → reading_turn (statement d) t.spot t.kind ≡ takes plain (behind_start n d ∷ [])
name_begins d {t = t} at_ n name e same = ap (turn_statement d t.spot) (name_is t.kind name e ∙ ap kinds.Name (sym same.0))
    ∙ ap (λ spot. takes plain (behind_start (record { name = n.name; spot = spot }) d ∷ [])) (sym same.1)

-- after a name

module _ (n : Named) (d : ℕ) {tokens : List Token} {t : Token} {ts : List Token} (at_ : tokens ≡ t ∷ ts) where
  pub becomes_takes : is_symbol symbols.Becomes t.kind ≡ true → reading_turn (behind_start n d) t.spot t.kind ≡ takes plain (whole 0 ∷ make (assigned n) ∷ [])
  becomes_takes e = ap (turn_behind_start n d) (symbol_from t.kind symbols.Becomes e)

  pub square_takes : is_symbol symbols.OpenSquare t.kind ≡ true → reading_turn (behind_start n d) t.spot t.kind ≡ takes plain (element_in n)
  square_takes e = ap (turn_behind_start n d) (symbol_from t.kind symbols.OpenSquare e)

-- without a parenthesis both the statement and its actuals are done
silent : (n : Named) (d : ℕ) (spot : Spot) (k : TokenKind) → is_symbol symbols.Colon k ≡ false → is_symbol symbols.Becomes k ≡ false →
    is_symbol symbols.OpenSquare k ≡ false → is_symbol symbols.OpenRound k ≡ false →
    (turn_behind_start n d k ≡ makes (value_put (stmt (trees.call_of (called n none))))) × (reading_turn actuals_part spot k ≡ makes (value_put (due.many none)))
silent n d spot (kinds.Symbol symbols.Colon) a b c e = cc
silent n d spot (kinds.Symbol symbols.Becomes) a b c e = cc
silent n d spot (kinds.Symbol symbols.OpenSquare) a b c e = cc
silent n d spot (kinds.Symbol symbols.OpenRound) a b c e = cc
silent n d spot k a b c e = (refl, refl)

call_turn : (n : Named) (d : ℕ) (t : Token) (ts : List Token) (due_ : List Due) (vs : List Value) (o : Bool) → is_symbol symbols.OpenRound t.kind ≡ o →
    is_symbol symbols.Colon t.kind ≡ false → is_symbol symbols.Becomes t.kind ≡ false → is_symbol symbols.OpenSquare t.kind ≡ false →
    read 0 (t ∷ ts) (behind_start n d ∷ due_) vs ≡ read 0 (t ∷ ts) (actuals_part ∷ make (calling n) ∷ due_) vs
call_turn n d t ts due_ vs true e a b c =
    let k = symbol_from t.kind symbols.OpenRound e in
    takes_step 0 t ts (behind_start n d) (wholes_in ++ symbol symbols.CloseRound ∷ make (calling n) ∷ []) due_ vs (ap (turn_behind_start n d) k)
    ∙ sym (takes_step 0 t ts actuals_part (wholes_in ++ symbol symbols.CloseRound ∷ []) (make (calling n) ∷ due_) vs (ap (reading_turn actuals_part t.spot) k))
call_turn n d t ts due_ vs false e a b c =
    let q = silent n d t.spot t.kind a b c e in
    makes_step 0 t ts (behind_start n d) due_ vs (value_put (stmt (trees.call_of (called n none)))) q.0
    ∙ sym (makes_step 0 t ts actuals_part (make (calling n) ∷ due_) vs (value_put (due.many none)) q.1
    ∙ make_step 0 (t ∷ ts) (calling n) due_ (due.many none ∷ vs))

pub call_there : (n : Named) (d : ℕ) {us : List Value} {tokens : List Token} {t : Token} {ts : List Token} → tokens ≡ t ∷ ts → is_symbol symbols.Colon t.kind ≡ false →
    is_symbol symbols.Becomes t.kind ≡ false → is_symbol symbols.OpenSquare t.kind ≡ false →
    Reaches (behind_start n d ∷ []) us tokens (actuals_part ∷ make (calling n) ∷ []) us tokens
call_there n d {us = us} {t = t} {ts = ts} at_ a b c = subst (λ x. Reaches (behind_start n d ∷ []) us x (actuals_part ∷ make (calling n) ∷ []) us x) (sym at_)
    (record { run = λ due_ vs. call_turn n d t ts due_ (us ++ vs) (is_symbol symbols.OpenRound t.kind) refl a b c })

-- a label's colon

module _ (n : Named) (d : ℕ) {tokens : List Token} {t : Token} {ts : List Token} (at_ : tokens ≡ t ∷ ts) (e : is_symbol symbols.Colon t.kind ≡ true) where
  colon_turn : reading_turn (behind_start n d) t.spot t.kind ≡ takes (label d n.spot) (statement (d + 1) ∷ make (labelled n) ∷ [])
  colon_turn = ap (turn_behind_start n d) (symbol_from t.kind symbols.Colon e)

  pub colon_opens : (i : ℕ) → d < MOST_NESTING → i ≡ d + 1 → Reaches (behind_start n d ∷ []) [] tokens (statement i ∷ make (labelled n) ∷ []) [] ts
  colon_opens i o is = subst (λ i. Reaches (behind_start n d ∷ []) [] tokens (statement i ∷ make (labelled n) ∷ []) [] ts) (sym is) (record {
    run = λ due_ vs.
        ap (λ x. read 0 x (behind_start n d ∷ due_) vs) at_
        ∙ label_step 0 d t t ts (behind_start n d) n.spot (statement (d + 1) ∷ make (labelled n) ∷ []) due_ vs colon_turn (inl o);
  })

  pub colon_too_deep : (e : Refusal) → MOST_NESTING ≤ d → e ≡ At n.spot codes.TooDeep → ReaderRefuses (behind_start n d ∷ []) [] tokens e
  colon_too_deep e o r = record {
    left = length (t ∷ ts);
    fails = record {
      run = λ spot code at due_ vs.
          let same : At n.spot codes.TooDeep ≡ At spot code = sym r ∙ at in
          ap (λ x. read 0 x (behind_start n d ∷ due_) vs) at_
          ∙ deep_label_step d t ts (behind_start n d) n.spot (statement (d + 1) ∷ make (labelled n) ∷ []) due_ vs colon_turn o ∙ cc;
    };
  }

-- what follows a statement

pub else_on : (d : ℕ) {tokens : List Token} {t : Token} {ts : List Token} → tokens ≡ t ∷ ts → is_word reserved.Else t.kind ≡ true →
    reading_turn (else_part d) t.spot t.kind ≡ takes plain (statement d ∷ make two_armed ∷ [])
else_on d {t = t} at_ e = ap (λ b. either b (takes plain (statement d ∷ make two_armed ∷ [])) (makes one_armed)) e

pub else_off : (d : ℕ) {tokens : List Token} {t : Token} {ts : List Token} → tokens ≡ t ∷ ts → is_word reserved.Else t.kind ≡ false →
    reading_turn (else_part d) t.spot t.kind ≡ makes one_armed
else_off d {t = t} at_ e = ap (λ b. either b (takes plain (statement d ∷ make two_armed ∷ [])) (makes one_armed)) e

abbrev pub more_stmts : ℕ → List Due
more_stmts d = statement d ∷ make stmt_added ∷ stmts_more d ∷ []

pub stmts_on : (d : ℕ) {tokens : List Token} {t : Token} {ts : List Token} → tokens ≡ t ∷ ts → is_symbol symbols.Semicolon t.kind ≡ true →
    reading_turn (stmts_more d) t.spot t.kind ≡ takes plain (more_stmts d)
stmts_on d {t = t} at_ e = ap (λ b. either b (takes plain (more_stmts d)) skips) e

pub stmts_off : (d : ℕ) {tokens : List Token} {t : Token} {ts : List Token} → tokens ≡ t ∷ ts → is_symbol symbols.Semicolon t.kind ≡ false →
    reading_turn (stmts_more d) t.spot t.kind ≡ skips
stmts_off d {t = t} at_ e = ap (λ b. either b (takes plain (more_stmts d)) skips) e

-- declarations

pub array_declared : (d : ℕ) {tokens : List Token} {t : Token} {ts : List Token} → tokens ≡ t ∷ ts → is_word reserved.Array t.kind ≡ true →
    reading_turn (declarations d) t.spot t.kind ≡ takes plain ((segment_in types.Number ++ symbol symbols.Semicolon ∷ []) ++ declarations d ∷ [])
array_declared d {t = t} at_ e = ap (turn_declarations d) (word_from t.kind reserved.Array e)

-- names that are declared by the word before them
abbrev ListedTurn : Option Listed → ℕ → Turn → Type 0
ListedTurn (Some l) d x = x ≡ takes plain (listed_in l ++ declarations d ∷ [])
ListedTurn None d x = Unit

listed_turns : (d : ℕ) (k : TokenKind) → ListedTurn (listed_by k) d (turn_declarations d k)
listed_turns d (kinds.Word reserved.File) = refl
listed_turns d (kinds.Word reserved.Event) = refl
listed_turns d (kinds.Word reserved.Task) = refl
listed_turns d (kinds.Word reserved.Label) = refl
listed_turns d k = tt

pub listed_declared : (d : ℕ) {tokens : List Token} {t : Token} {ts : List Token} → tokens ≡ t ∷ ts → (l : Listed) → listed_by t.kind ≡ Some l →
    reading_turn (declarations d) t.spot t.kind ≡ takes plain (listed_in l ++ declarations d ∷ [])
listed_declared d {t = t} at_ l e = subst (λ o. ListedTurn o d (turn_declarations d t.kind)) e (listed_turns d t.kind)

-- ARRAY is the other word
abbrev ArrayElse : Bool → Option Listed → TokenKind → Type 0
ArrayElse true None k = is_word reserved.Array k ≡ true
ArrayElse lists o k = Unit

arrays_else : (k : TokenKind) → ArrayElse (lists_names k) (listed_by k) k
arrays_else (kinds.Word reserved.Array) = refl
arrays_else (kinds.Word reserved.File) = tt
arrays_else (kinds.Word reserved.Event) = tt
arrays_else (kinds.Word reserved.Task) = tt
arrays_else (kinds.Word reserved.Label) = tt
arrays_else k = tt

pub array_else : (k : TokenKind) → lists_names k ≡ true → listed_by k ≡ None → is_word reserved.Array k ≡ true
array_else k a b = subst (λ o. ArrayElse true o k) b (subst (λ lists. ArrayElse lists (listed_by k) k) a (arrays_else k))

pub not_end_lists : (k : TokenKind) → lists_names k ≡ true → k ≡ kinds.End → ⊥
not_end_lists k e q = let no : false ≡ true = sym (ap lists_names q) ∙ e in cc

pub procedure_declared : (d : ℕ) {tokens : List Token} {t : Token} {ts : List Token} → tokens ≡ t ∷ ts → is_word reserved.Procedure t.kind ≡ true →
    reading_turn (declarations d) t.spot t.kind ≡ takes plain (procedure_in None d ++ declarations d ∷ [])
procedure_declared d {t = t} at_ e = ap (turn_declarations d) (word_from t.kind reserved.Procedure e)

abbrev Types : ℕ → Option Kind → Turn → Type 0
Types d (Some kind) x = x ≡ takes plain (typed kind d ∷ declarations d ∷ [])
Types d None x = Unit

type_turns : (d : ℕ) (k : TokenKind) → Types d (type_of k) (turn_declarations d k)
type_turns d (kinds.Word reserved.Integer) = refl
type_turns d (kinds.Word reserved.Real) = refl
type_turns d (kinds.Word reserved.Boolean) = refl
type_turns d k = tt

pub type_declared : (d : ℕ) {tokens : List Token} {t : Token} {ts : List Token} → tokens ≡ t ∷ ts → (kind : Kind) → type_of t.kind ≡ Some kind →
    reading_turn (declarations d) t.spot t.kind ≡ takes plain (typed kind d ∷ declarations d ∷ [])
type_declared d {t = t} at_ kind e = subst (λ o. Types d o (turn_declarations d t.kind)) e (type_turns d t.kind)

none_turn : (d : ℕ) (k : TokenKind) → is_word reserved.Procedure k ≡ false → type_of k ≡ None → lists_names k ≡ false → turn_declarations d k ≡ skips
none_turn d (kinds.Word reserved.File) a b c = cc
none_turn d (kinds.Word reserved.Event) a b c = cc
none_turn d (kinds.Word reserved.Task) a b c = cc
none_turn d (kinds.Word reserved.Label) a b c = cc
none_turn d (kinds.Word reserved.Array) a b c = cc
none_turn d (kinds.Word reserved.Procedure) a b c = cc
none_turn d (kinds.Word reserved.Integer) a b c = cc
none_turn d (kinds.Word reserved.Real) a b c = cc
none_turn d (kinds.Word reserved.Boolean) a b c = cc
none_turn d k a b c = refl

pub none_declared : (d : ℕ) {tokens : List Token} {t : Token} {ts : List Token} → tokens ≡ t ∷ ts → is_word reserved.Procedure t.kind ≡ false → type_of t.kind ≡ None →
    lists_names t.kind ≡ false → reading_turn (declarations d) t.spot t.kind ≡ skips
none_declared d {t = t} at_ a b c = none_turn d t.kind a b c

-- after a type

module _ (kind : Kind) (d : ℕ) {tokens : List Token} {t : Token} {ts : List Token} (at_ : tokens ≡ t ∷ ts) where
  pub typed_procedure : is_word reserved.Procedure t.kind ≡ true → reading_turn (typed kind d) t.spot t.kind ≡ takes plain (procedure_in (Some kind) d)
  typed_procedure e = ap (turn_typed kind d t.spot) (word_from t.kind reserved.Procedure e)

  pub typed_arrays : is_word reserved.Array t.kind ≡ true → reading_turn (typed kind d) t.spot t.kind ≡ takes plain (segment_in kind ++ symbol symbols.Semicolon ∷ [])
  typed_arrays e = ap (turn_typed kind d t.spot) (word_from t.kind reserved.Array e)

typed_refused : (kind : Kind) (d : ℕ) (spot : Spot) (k : TokenKind) → is_word reserved.Procedure k ≡ false → is_word reserved.Array k ≡ false → name_in k ≡ None →
    turn_typed kind d spot k ≡ refuses
typed_refused kind d spot (kinds.Name name) a b c = cc
typed_refused kind d spot (kinds.Word reserved.Array) a b c = cc
typed_refused kind d spot (kinds.Word reserved.Procedure) a b c = cc
typed_refused kind d spot k a b c = refl

pub typed_list : (kind : Kind) (d : ℕ) (us : List Value) {tokens : List Token} {t : Token} {ts : List Token} → tokens ≡ t ∷ ts → is_word reserved.Procedure t.kind ≡ false →
    is_word reserved.Array t.kind ≡ false → Reaches (typed kind d ∷ []) us tokens (names_in_list ++ make (names_declared (trees.simple kind)) ∷ symbol symbols.Semicolon ∷ []) us tokens
typed_list kind d us {t = t} {ts = ts} at_ a b =
    subst (λ x. Reaches (typed kind d ∷ []) us x (names_in_list ++ make (names_declared (trees.simple kind)) ∷ symbol symbols.Semicolon ∷ []) us x) (sym at_)
    (names_there (typed kind d) (make (names_declared (trees.simple kind)) ∷ symbol symbols.Semicolon ∷ []) t ts (λ name q. ap (turn_typed kind d t.spot) q)
    (λ q. typed_refused kind d t.spot t.kind a b q) us)

-- the body of a procedure

abbrev pub behind_body : List Due
behind_body = make with_body ∷ symbol symbols.Semicolon ∷ []

-- a body's first token, to the statement that it is and to the body
data Enters (d : ℕ) : Turn → Turn → Type 0 where
  flat : (ds : List Due) → Enters d (takes plain ds) (takes (nests d) (ds ++ behind_body))
  nested : (ds : List Due) → Enters d (takes (nests (d + 1)) ds) (takes (nests (d + 1)) (ds ++ behind_body))

abbrev EntersWhere : Bool → Bool → ℕ → Turn → Turn → Type 0
EntersWhere false true d x y = Enters d x y
EntersWhere semicolon begins d x y = Unit

entering : (d : ℕ) (spot : Spot) (k : TokenKind) →
    EntersWhere (is_symbol symbols.Semicolon k) (begins_body k) d (turn_statement (d + 1) spot k) (turn_procedure_body d spot k)
entering d spot (kinds.Name n) = flat _
entering d spot (kinds.Word reserved.Begin) = nested _
entering d spot (kinds.Word reserved.If) = nested _
entering d spot (kinds.Word reserved.While) = nested _
entering d spot (kinds.Word reserved.Do) = nested _
entering d spot (kinds.Word reserved.For) = nested _
entering d spot (kinds.Word reserved.Thru) = nested _
entering d spot (kinds.Word reserved.Case) = nested _
entering d spot (kinds.Word reserved.Go) = flat _
entering d spot (kinds.Word reserved.Process) = flat _
entering d spot (kinds.Word reserved.Write) = flat _
entering d spot (kinds.Word reserved.Cause) = flat _
entering d spot (kinds.Word reserved.CauseAndReset) = flat _
entering d spot (kinds.Word reserved.Reset) = flat _
entering d spot (kinds.Word reserved.Wait) = flat _
entering d spot (kinds.Word reserved.Procure) = flat _
entering d spot (kinds.Word reserved.Liberate) = flat _
entering d spot (kinds.Symbol symbols.Semicolon) = tt
entering d spot k = tt

enters : (d : ℕ) (spot : Spot) (k : TokenKind) → is_symbol symbols.Semicolon k ≡ false → begins_body k ≡ true → Enters d (turn_statement (d + 1) spot k) (turn_procedure_body d spot k)
enters d spot k a b = subst (λ begins. EntersWhere false begins d (turn_statement (d + 1) spot k) (turn_procedure_body d spot k)) b
    (subst (λ semicolon. EntersWhere semicolon (begins_body k) d (turn_statement (d + 1) spot k) (turn_procedure_body d spot k)) a (entering d spot k))

module _ (d : ℕ) (t : Token) (ts : List Token) where
  entered_read : (x y : Turn) → Enters d x y → reading_turn (statement (d + 1)) t.spot t.kind ≡ x → reading_turn (procedure_body d) t.spot t.kind ≡ y → d < MOST_NESTING →
      (due_ : List Due) (vs : List Value) → read 0 (t ∷ ts) (procedure_body d ∷ due_) vs ≡ read 0 (t ∷ ts) (statement (d + 1) ∷ (behind_body ++ due_)) vs
  entered_read _ _ (flat ds) p q o due_ vs = opens_step 0 d t ts (procedure_body d) (ds ++ behind_body) due_ vs q (inl o)
      ∙ ap (λ x. read 0 ts x vs) (append_assoc ds behind_body due_) ∙ sym (takes_step 0 t ts (statement (d + 1)) ds (behind_body ++ due_) vs p)
  entered_read _ _ (nested ds) p q o due_ vs = read_at 0 outside (procedure_body d) (statement (d + 1)) behind_body due_ t ts vs
      (subst Takes (sym p) (taken (nests (d + 1)) ds)) (q ∙ ap (λ x. followed x behind_body) (sym p))

  entered_deep : (x y : Turn) → Enters d x y → reading_turn (procedure_body d) t.spot t.kind ≡ y → MOST_NESTING ≤ d → (us : List Value) (e : Refusal) → e ≡ At t.spot codes.TooDeep →
      ReaderRefuses (procedure_body d ∷ []) us (t ∷ ts) e
  entered_deep _ _ (flat ds) q o us e r = too_deep_here (here t ts) d (procedure_body d) (ds ++ behind_body) {ds = []} {us = us} e q o r
  entered_deep _ _ (nested ds) q o us e r =
      let deeper : MOST_NESTING ≤ d + 1 = omega (arith, o) in too_deep_here (here t ts) (d + 1) (procedure_body d) (ds ++ behind_body) {ds = []} {us = us} e q deeper r

  semicolon_read : is_symbol symbols.Semicolon t.kind ≡ true → d < MOST_NESTING → (due_ : List Due) (vs : List Value) →
      read 0 (t ∷ ts) (procedure_body d ∷ due_) vs ≡ read 0 (t ∷ ts) (statement (d + 1) ∷ (behind_body ++ due_)) vs
  semicolon_read e o due_ vs =
      let k = symbol_from t.kind symbols.Semicolon e in
      opens_step 0 d t ts (procedure_body d) (make (value_put (stmt trees.empty)) ∷ make with_body ∷ []) due_ vs (ap (reading_turn (procedure_body d) t.spot) k) (inl o)
      ∙ make_step 0 ts (value_put (stmt trees.empty)) (make with_body ∷ due_) vs
      ∙ make_step 0 ts with_body due_ (stmt trees.empty ∷ vs)
      ∙ sym (makes_step 0 t ts (statement (d + 1)) (behind_body ++ due_) vs (value_put (stmt trees.empty)) (ap (turn_statement (d + 1) t.spot) k)
      ∙ make_step 0 (t ∷ ts) with_body (symbol symbols.Semicolon ∷ due_) (stmt trees.empty ∷ vs)
      ∙ symbol_step 0 t ts symbols.Semicolon due_ (with_body (stmt trees.empty ∷ vs)) k)

  body_read : (b : Bool) → is_symbol symbols.Semicolon t.kind ≡ b → begins_body t.kind ≡ true → d < MOST_NESTING → (due_ : List Due) (vs : List Value) →
      read 0 (t ∷ ts) (procedure_body d ∷ due_) vs ≡ read 0 (t ∷ ts) (statement (d + 1) ∷ (behind_body ++ due_)) vs
  body_read true s e o due_ vs = semicolon_read s o due_ vs
  body_read false s e o due_ vs = entered_read _ _ (enters d t.spot t.kind s e) refl refl o due_ vs

  body_deep : (b : Bool) → is_symbol symbols.Semicolon t.kind ≡ b → begins_body t.kind ≡ true → MOST_NESTING ≤ d → (us : List Value) (e : Refusal) → e ≡ At t.spot codes.TooDeep →
      ReaderRefuses (procedure_body d ∷ []) us (t ∷ ts) e
  body_deep true s q o us e r = too_deep_here (here t ts) d (procedure_body d) (make (value_put (stmt trees.empty)) ∷ make with_body ∷ []) {ds = []} {us = us} e
      (ap (reading_turn (procedure_body d) t.spot) (symbol_from t.kind symbols.Semicolon s)) o r
  body_deep false s q o us e r = entered_deep _ _ (enters d t.spot t.kind s q) refl o us e r

pub body_starts : (d i : ℕ) {us : List Value} {tokens : List Token} {t : Token} {ts : List Token} → tokens ≡ t ∷ ts → begins_body t.kind ≡ true → d < MOST_NESTING → i ≡ d + 1 →
    Reaches (procedure_body d ∷ []) us tokens (statement i ∷ behind_body) us tokens
body_starts d i {us = us} {t = t} {ts = ts} at_ e o is = subst (λ x. Reaches (procedure_body d ∷ []) us x (statement i ∷ behind_body) us x) (sym at_)
    (subst (λ i. Reaches (procedure_body d ∷ []) us (t ∷ ts) (statement i ∷ behind_body) us (t ∷ ts)) (sym is)
    (record { run = λ due_ vs. body_read d t ts (is_symbol symbols.Semicolon t.kind) refl e o due_ (us ++ vs) }))

pub body_too_deep : (d : ℕ) (us : List Value) {tokens : List Token} {t : Token} {ts : List Token} → tokens ≡ t ∷ ts → (e : Refusal) → begins_body t.kind ≡ true → MOST_NESTING ≤ d →
    e ≡ At t.spot codes.TooDeep → ReaderRefuses (procedure_body d ∷ []) us tokens e
body_too_deep d us {t = t} {ts = ts} at_ e b o r = subst (λ x. ReaderRefuses (procedure_body d ∷ []) us x e) (sym at_) (body_deep d t ts (is_symbol symbols.Semicolon t.kind) refl b o us e r)

pub forward_takes : (d : ℕ) {tokens : List Token} {t : Token} {ts : List Token} → tokens ≡ t ∷ ts → is_word reserved.Forward t.kind ≡ true →
    reading_turn (procedure_body d) t.spot t.kind ≡ takes plain (make announced ∷ symbol symbols.Semicolon ∷ [])
forward_takes d {t = t} at_ e = ap (turn_procedure_body d t.spot) (word_from t.kind reserved.Forward e)

body_refused : (d : ℕ) (spot : Spot) (k : TokenKind) → is_word reserved.Forward k ≡ false → begins_body k ≡ false → turn_procedure_body d spot k ≡ refuses
body_refused d spot (kinds.Word reserved.Forward) a b = cc
body_refused d spot (kinds.Symbol symbols.Semicolon) a b = cc
body_refused d spot (kinds.Name n) a b = cc
body_refused d spot (kinds.Word reserved.Begin) a b = cc
body_refused d spot (kinds.Word reserved.If) a b = cc
body_refused d spot (kinds.Word reserved.While) a b = cc
body_refused d spot (kinds.Word reserved.Do) a b = cc
body_refused d spot (kinds.Word reserved.For) a b = cc
body_refused d spot (kinds.Word reserved.Thru) a b = cc
body_refused d spot (kinds.Word reserved.Case) a b = cc
body_refused d spot (kinds.Word reserved.Go) a b = cc
body_refused d spot (kinds.Word reserved.Process) a b = cc
body_refused d spot (kinds.Word reserved.Write) a b = cc
body_refused d spot (kinds.Word reserved.Cause) a b = cc
body_refused d spot (kinds.Word reserved.CauseAndReset) a b = cc
body_refused d spot (kinds.Word reserved.Reset) a b = cc
body_refused d spot (kinds.Word reserved.Wait) a b = cc
body_refused d spot (kinds.Word reserved.Procure) a b = cc
body_refused d spot (kinds.Word reserved.Liberate) a b = cc
body_refused d spot k a b = refl

pub body_refuses : (d : ℕ) {tokens : List Token} {t : Token} {ts : List Token} → tokens ≡ t ∷ ts → is_word reserved.Forward t.kind ≡ false → begins_body t.kind ≡ false →
    reading_turn (procedure_body d) t.spot t.kind ≡ refuses
body_refuses d {t = t} at_ a b = body_refused d t.spot t.kind a b

-- a program

abbrev pub after_program : Spot → ℕ → List Due
after_program spot i = make (value_put (declared no_decls)) ∷ declarations i ∷ make (value_put (list trees.no_stmts)) ∷ statement i ∷ make stmt_added ∷ stmts_more i
    ∷ word reserved.End ∷ symbol symbols.Period ∷ make (programmed spot) ∷ []

pub program_begins : {tokens : List Token} {t : Token} {ts : List Token} → tokens ≡ t ∷ ts → is_word reserved.Begin t.kind ≡ true →
    reading_turn due.program t.spot t.kind ≡ takes (nests 0) (after_program t.spot 1)
program_begins {t = t} at_ e = ap (λ b. either b (takes (nests 0) (after_program t.spot 1)) refuses) e

pub program_refuses : {tokens : List Token} {t : Token} {ts : List Token} → tokens ≡ t ∷ ts → is_word reserved.Begin t.kind ≡ false →
    reading_turn due.program t.spot t.kind ≡ refuses
program_refuses {t = t} at_ e = ap (λ b. either b (takes (nests 0) (after_program t.spot 1)) refuses) e
