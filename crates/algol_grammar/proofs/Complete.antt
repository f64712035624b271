-- What the grammar of statements and declarations has is read, with its tree.
use Rattle.std.proofs.Common.{◌≡◌, ◌⊎◌, ◌+◌, ℕ, Bool, true, false, not, List, [], ◌∷◌, ◌++◌, Option, Some, refl, sym, subst, ap, ◌∙◌, inl, inr, append_assoc, arith}
use Rattle.algol_tree.specs.declared.token.Spot.{Spot}
use Rattle.algol_tree.specs.declared.token.Token.{Token}
use Rattle.algol_tree.specs.declared.token.TokenKind.{TokenKind}
use Rattle.algol_tree.specs.declared.token.TokenKind.TheVariants as kinds
use Rattle.algol_tree.specs.declared.token.Reserved.TheVariants as reserved
use Rattle.algol_tree.specs.declared.token.Symbol.TheVariants as symbols
use Rattle.algol_tree.specs.declared.tree.Named.{Named}
use Rattle.algol_tree.specs.declared.tree.Kind.{Kind}
use Rattle.algol_tree.specs.declared.tree.Kind.TheVariants as types
use Rattle.algol_tree.specs.declared.tree.Heading.{Heading}
use Rattle.algol_tree.specs.Plain as trees
use Rattle.algol_tree.specs.Plain.{PStmt, empty, PStmts, no_stmts, stmts, PDecls, no_decls, decls, PBody}
use Rattle.algol_tree.specs.Tokens.{IsWord, IsSymbol, IsName, is_word, is_symbol}
use Rattle.algol_tree.specs.Ends.{part_ends, Ends}
use Rattle.algol_tree.specs.Operators.{expr}
use Rattle.algol_tree.specs.Expressions.{TokenOpens}
use Rattle.algol_tree.specs.Headings as headings
use Rattle.algol_tree.specs.Headings.{type_of, IsTyped, elements_of, IsHeading}
use Rattle.algol_tree.specs.Statements as grammar
use Rattle.algol_tree.specs.Statements.{open_if, decls_and, IsStmt, IsStmts, IsDecl, IsDecls, IsBody, IsSubscripts, IsActuals}
use Rattle.algol_tree.specs.Programs as programs
use Rattle.algol_tree.specs.Programs.{IsProgram}
use Rattle.algol_tree.specs.Due as due_data
use Rattle.algol_tree.specs.Due.{Value, one, many, event_named, names, place, phrases, heading, stmt, list, declared, Make, value_put, Due, make, word, symbol, event, whole, named, names_more, to_part, angle, statement, behind_start, else_part, stmts_more, declarations, typed, procedure_body, behind_procedure, Turn, takes, makes, skips, refuses, plain, nests, label, followed, either, optional}
use Rattle.algol_tree.specs.DueStmt as due_stmt
use Rattle.algol_tree.specs.DueStmt.{stmt_behind, decl_behind, stmt_added, names_declared, announced, with_body, one_armed, turn_statement, turn_behind_start, turn_declaration, turn_typed, turn_procedure_body, turn_start, turn_angle, body_in, stmts_in, procedure_in, segment_in, turn_entered}
use Rattle.algol_tree.specs.Reading.{reading_turn, read}
use Rattle.algol_expr.proofs.Reading.{Leads}
use Rattle.algol_expr.proofs.Turns.{takes_step, opens_step, label_step, makes_step, skips_step, skips_end, make_step, word_step, symbol_step, word_is, symbol_is}
use Rattle.algol_expr.proofs.Complete.{event_read}
use Rattle.algol_grammar.proofs.Optional.{NotFirst, left_out, gone_on}
use Rattle.algol_grammar.proofs.Headings.{named_read, names_read, names_by_first, files_read, heading_on, heading_with, no_spec}
use Rattle.algol_grammar.proofs.Lists.{whole_read, wholes_read, actuals_read, items_read, task_read, phrases_on, segments_on, behind_decls}
use Rattle.algol_grammar.proofs.Begins.{act_turn, Begins, BeginsAt, begins_at, IsOwn, nothing_opened, level_opened, stmt_begins, begins_declaration, no_declaration, no_specification, specs_no_value}

-- What may stand after a statement, where b says that it ends in an IF without an ELSE.
pub data Closes (b : Bool) : List Token → Type 0 where
  semi : (t : Token) (ts : List Token) → IsSymbol symbols.Semicolon t → Closes b (t ∷ ts)
  ending : (t : Token) (ts : List Token) → IsWord reserved.End t → Closes b (t ∷ ts)
  until_ : (t : Token) (ts : List Token) → IsWord reserved.Until t → Closes b (t ∷ ts)
  else_ : (t : Token) (ts : List Token) → IsWord reserved.Else t → b ≡ false → Closes b (t ∷ ts)

pub closes_expr : (b : Bool) (rest : List Token) → Closes b rest → Ends expr rest
closes_expr b _ (semi t ts e) = ap (part_ends expr) e
closes_expr b _ (ending t ts e) = ap (part_ends expr) e
closes_expr b _ (until_ t ts e) = ap (part_ends expr) e
closes_expr b _ (else_ t ts e f) = ap (part_ends expr) e

closes_not : (f : TokenKind → Bool) → f (kinds.Symbol symbols.Semicolon) ≡ false → f (kinds.Word reserved.End) ≡ false → f (kinds.Word reserved.Until) ≡ false →
    f (kinds.Word reserved.Else) ≡ false → (b : Bool) (rest : List Token) → Closes b rest → NotFirst f rest
closes_not f p q r s b _ (semi t ts e) = ap f e ∙ p
closes_not f p q r s b _ (ending t ts e) = ap f e ∙ q
closes_not f p q r s b _ (until_ t ts e) = ap f e ∙ r
closes_not f p q r s b _ (else_ t ts e g) = ap f e ∙ s

weaker : (b : Bool) (rest : List Token) → Closes true rest → Closes b rest
weaker b _ (semi t ts e) = semi t ts e
weaker b _ (ending t ts e) = ending t ts e
weaker b _ (until_ t ts e) = until_ t ts e
weaker b _ (else_ t ts e f) = cc

-- an empty statement is read where a statement may end
empty_read : (free d : ℕ) (b : Bool) (rest : List Token) → Closes b rest → Leads free (statement d) rest (stmt empty) rest
empty_read free d b _ (semi t ts e) due vs = makes_step free t ts (statement d) due vs _ (ap (turn_statement d t.spot) e)
empty_read free d b _ (ending t ts e) due vs = makes_step free t ts (statement d) due vs _ (ap (turn_statement d t.spot) e)
empty_read free d b _ (until_ t ts e) due vs = makes_step free t ts (statement d) due vs _ (ap (turn_statement d t.spot) e)
empty_read free d b _ (else_ t ts e f) due vs = makes_step free t ts (statement d) due vs _ (ap (turn_statement d t.spot) e)

-- and so is a name without actuals
name_read : (free d : ℕ) (n : Named) (b : Bool) (rest : List Token) → Closes b rest → Leads free (behind_start n d) rest (stmt (trees.call_of (trees.called n trees.none))) rest
name_read free d n b _ (semi t ts e) due vs = makes_step free t ts (behind_start n d) due vs _ (ap (turn_behind_start n d) e)
name_read free d n b _ (ending t ts e) due vs = makes_step free t ts (behind_start n d) due vs _ (ap (turn_behind_start n d) e)
name_read free d n b _ (until_ t ts e) due vs = makes_step free t ts (behind_start n d) due vs _ (ap (turn_behind_start n d) e)
name_read free d n b _ (else_ t ts e f) due vs = makes_step free t ts (behind_start n d) due vs _ (ap (turn_behind_start n d) e)

-- an IF without an ELSE is over where none follows
no_else : (free d : ℕ) (rest : List Token) → Closes true rest → (due : List Due) (vs : List Value) → read free rest (else_part d ∷ due) vs ≡ read free rest due (one_armed vs)
no_else free d _ (semi t ts e) due vs = makes_step free t ts (else_part d) due vs one_armed (ap (λ k. reading_turn (else_part d) t.spot k) e)
no_else free d _ (ending t ts e) due vs = makes_step free t ts (else_part d) due vs one_armed (ap (λ k. reading_turn (else_part d) t.spot k) e)
no_else free d _ (until_ t ts e) due vs = makes_step free t ts (else_part d) due vs one_armed (ap (λ k. reading_turn (else_part d) t.spot k) e)
no_else free d _ (else_ t ts e f) due vs = cc

name_starts : (free d : ℕ) (t : Token) (n : Named) (ts : List Token) (due : List Due) (vs : List Value) → IsName n t →
    read free (t ∷ ts) (statement d ∷ due) vs ≡ read free ts (behind_start n d ∷ due) vs
name_starts free d t n ts due vs k =
    takes_step free t ts (statement d) _ due vs (ap (turn_statement d t.spot) k.name)
    ∙ ap (λ spot. read free ts (behind_start (record { name = n.name; spot = spot }) d ∷ due) vs) k.place

assigned_read : (free d : ℕ) (n : Named) (from : List Token) (es : trees.PExprs) (e : trees.PExpr) (u : Token) (after rest : List Token) → IsSubscripts free from es (u ∷ after) →
    IsSymbol symbols.Becomes u → Leads free (whole 0) after (one e) rest → Leads free (behind_start n d) from (stmt (trees.assign (trees.subscripted n es) e)) rest
assigned_read free d n _ _ e u after rest (grammar.nothing _) c x due vs =
    takes_step free u after (behind_start n d) _ due vs (ap (turn_behind_start n d) c) ∙ x _ vs ∙ make_step free rest _ due _
assigned_read free d n _ _ e u after rest (grammar.subscripts t v es from _ o y s) c x due vs =
    takes_step free t from (behind_start n d) _ due vs (ap (turn_behind_start n d) o)
    ∙ wholes_read free from es (v ∷ u ∷ after) y (ap (part_ends expr) s) (ap (is_symbol symbols.Comma) s) _ vs
    ∙ symbol_step free v (u ∷ after) symbols.CloseSquare _ _ s
    ∙ symbol_step free u after symbols.Becomes _ _ c
    ∙ x _ _
    ∙ make_step free rest _ due _

called_read : (free d : ℕ) (n : Named) (b : Bool) (from : List Token) (es : trees.PExprs) (rest : List Token) → IsActuals free from es rest → Closes b rest →
    Leads free (behind_start n d) from (stmt (trees.call_of (trees.called n es))) rest
called_read free d n b _ _ rest (grammar.nothing _) end due vs = name_read free d n b rest end due vs
called_read free d n b _ _ rest (grammar.actuals t u es from _ o x c) end due vs =
    takes_step free t from (behind_start n d) _ due vs (ap (turn_behind_start n d) o)
    ∙ wholes_read free from es (u ∷ rest) x (ap (part_ends expr) c) (ap (is_symbol symbols.Comma) c) _ vs
    ∙ symbol_step free u rest symbols.CloseRound _ _ c
    ∙ make_step free rest _ due _

to_read : (free : ℕ) (from : List Token) (u : Token) (n : Named) (rest : List Token) → grammar.IsTo from (u ∷ rest) → IsName n u → (due : List Due) (vs : List Value) →
    read free from (to_part ∷ named ∷ due) vs ≡ read free rest due (due_data.name_is n ∷ vs)
to_read free _ u n rest (grammar.nothing _) k due vs =
    left_out free to_part (is_word reserved.To) _ (λ spot k. refl) refl (u ∷ rest) (ap (is_word reserved.To) k.name) _ vs ∙ named_read free u n rest k due vs
to_read free _ u n rest (grammar.to t _ w) k due vs =
    gone_on free to_part (is_word reserved.To) _ skips (λ spot k. refl) t (u ∷ rest) (word_is t reserved.To w) _ vs ∙ named_read free u n rest k due vs

task_first : (from : List Token) (t : Option Named) (rest : List Token) → grammar.IsTaskPart from t rest → NotFirst (is_symbol symbols.OpenRound) rest → NotFirst (is_symbol symbols.OpenRound) from
task_first _ _ rest (grammar.nothing _) end = end
task_first _ _ rest (grammar.task t u v n _ o k c) end = ap (is_symbol symbols.OpenRound) o

-- these statements, and those after them
abbrev pub stmts_and : PStmts → PStmts → PStmts
stmts_and no_stmts ss = ss
stmts_and (stmts s ss) ts = stmts s (stmts_and ss ts)

pub stmts_behind : (acc : PStmts) (s : PStmt) (ss : PStmts) → stmts_and (stmt_behind acc s) ss ≡ stmts_and acc (stmts s ss)
stmts_behind no_stmts s ss = refl
stmts_behind (stmts x acc) s ss = ap (stmts x) (stmts_behind acc s ss)

pub behind_stmts : (acc : PStmts) (s : PStmt) → stmt_behind acc s ≡ stmts_and acc (stmts s no_stmts)
behind_stmts no_stmts s = refl
behind_stmts (stmts x acc) s = ap (stmts x) (behind_stmts acc s)

pub decls_and_assoc : (a b c : PDecls) → decls_and (decls_and a b) c ≡ decls_and a (decls_and b c)
decls_and_assoc no_decls b c = refl
decls_and_assoc (decls x a) b c = ap (decls x) (decls_and_assoc a b c)

pub decls_and_none : (acc : PDecls) → decls_and acc no_decls ≡ acc
decls_and_none no_decls = refl
decls_and_none (decls x acc) = ap (decls x) (decls_and_none acc)

-- no statement begins as a declaration does
stmt_first : (free d : ℕ) (from : List Token) (s : PStmt) (rest : List Token) → IsStmt free d from s rest → NotFirst begins_declaration rest → NotFirst begins_declaration from
stmt_first free d from s rest x end = by_first (stmt_begins free d from s rest x)
  where
    by_begin : (ts : List Token) → BeginsAt free d ts → NotFirst begins_declaration ts
    by_begin _ (begins_at t ts b) = no_declaration free d t ts b

    by_first : ((s ≡ empty) × (from ≡ rest)) ⊎ BeginsAt free d from → NotFirst begins_declaration from
    by_first (inl p) = subst (NotFirst begins_declaration) (sym p.1) end
    by_first (inr b) = by_begin from b

pub stmts_first : (free d : ℕ) (from : List Token) (ss : PStmts) (u : Token) (rest : List Token) → IsStmts free d from ss (u ∷ rest) → IsWord reserved.End u →
    NotFirst begins_declaration from
stmts_first free d from _ u rest (grammar.last _ s _ _ x) e = stmt_first free d from s (u ∷ rest) x (ap begins_declaration e)
stmts_first free d from _ u rest (grammar.semicolon t _ s ss _ mid _ x c y) e = stmt_first free d from s (t ∷ mid) x (ap begins_declaration c)

-- a declaration after its type
type_turn : (d : ℕ) (k : TokenKind) (kind : Kind) → type_of k ≡ Some kind → turn_declaration d k skips ≡ takes plain (typed kind d ∷ [])
type_turn d (kinds.Word reserved.Integer) kind e = let same : types.Number ≡ kind = cc in ap (λ kind. takes plain (typed kind d ∷ [])) same
type_turn d (kinds.Word reserved.Real) kind e = let same : types.Number ≡ kind = cc in ap (λ kind. takes plain (typed kind d ∷ [])) same
type_turn d (kinds.Word reserved.Boolean) kind e = let same : types.Truth ≡ kind = cc in ap (λ kind. takes plain (typed kind d ∷ [])) same
type_turn d k kind e = cc

module _ (free d : ℕ) (due : List Due) where
  typed_starts : (t : Token) (kind : Kind) (from : List Token) → type_of t.kind ≡ Some kind → (vs : List Value) →
      read free (t ∷ from) (declarations d ∷ due) vs ≡ read free from (typed kind d ∷ declarations d ∷ due) vs
  typed_starts t kind from k vs = takes_step free t from (declarations d) _ due vs (ap (λ x. followed x (declarations d ∷ [])) (type_turn d t.kind kind k))

  word_starts : (t : Token) (from : List Token) (k : TokenKind) (ds : List Due) → t.kind ≡ k → followed (turn_declaration d k skips) (declarations d ∷ []) ≡ takes plain ds →
      (vs : List Value) → read free (t ∷ from) (declarations d ∷ due) vs ≡ read free from (ds ++ due) vs
  word_starts t from k ds e is vs = takes_step free t from (declarations d) ds due vs (ap (λ k. followed (turn_declaration d k skips) (declarations d ∷ [])) e ∙ is)

  procedure_starts : (from : List Token) (kind : Option Kind) (t : Token) (after : List Token) → IsTyped from kind (t ∷ after) → IsWord reserved.Procedure t → (vs : List Value) →
      read free from (declarations d ∷ due) vs ≡ read free after (procedure_in kind d ++ declarations d ∷ due) vs
  procedure_starts _ _ t after (headings.untyped _) w vs = word_starts t after _ _ w refl vs
  procedure_starts _ _ t after (headings.typed h kind _ k) w vs =
      typed_starts h kind (t ∷ after) k vs ∙ takes_step free t after (typed kind d) _ _ vs (ap (turn_typed kind d t.spot) w)

  rows_start : (from : List Token) (kind : Option Kind) (t : Token) (after : List Token) → IsTyped from kind (t ∷ after) → IsWord reserved.Array t → (vs : List Value) →
      read free from (declarations d ∷ due) vs ≡ read free after (segment_in (elements_of kind) ++ symbol symbols.Semicolon ∷ declarations d ∷ due) vs
  rows_start _ _ t after (headings.untyped _) w vs = word_starts t after _ _ w refl vs
  rows_start _ _ t after (headings.typed h kind _ k) w vs =
      typed_starts h kind (t ∷ after) k vs ∙ takes_step free t after (typed kind d) _ _ vs (ap (turn_typed kind d t.spot) w)

  heading_read : (from : List Token) (h : Heading) (rest : List Token) → IsHeading from h rest → NotFirst (λ k. not (no_spec k)) rest → (vs : List Value) →
      read free from (declarations d ∷ due) vs ≡ read free rest (procedure_body d ∷ declarations d ∷ due) (heading h ∷ vs)
  heading_read from _ rest (headings.without t u v kind n _ _ x w k s) end vs =
      procedure_starts from kind t (u ∷ v ∷ rest) x w vs ∙ heading_on free kind n u v [] rest k s _ vs
  heading_read from _ rest (headings.with_params t u v w x kind n params values ss _ names_ mid after _ y p k o q c s z a) end vs =
      procedure_starts from kind t (u ∷ v ∷ names_) y p vs
      ∙ heading_with free kind n u v w x params values ss names_ mid after rest k o q c s z (specs_no_value after ss rest a) a end _ vs

-- a statement that begins a body
body_turn : (d : ℕ) (spot : Spot) (k : TokenKind) (x : Turn) → turn_start (d + 1) spot k refuses ≡ x → (x ≡ refuses → ⊥) → turn_procedure_body d spot k ≡ turn_entered d x
body_turn d spot (kinds.Word reserved.Forward) x e f = absurd (f (sym e))
body_turn d spot (kinds.Symbol symbols.Semicolon) x e f = absurd (f (sym e))
body_turn d spot k x e f = ap (turn_entered d) e

module _ (free d : ℕ) (due : List Due) (s : PStmt) (u : Token) (rest : List Token) (c : IsSymbol symbols.Semicolon u) (h : Heading) (acc : PDecls) (vs : List Value) where
  -- a body opens a level at its first token, before what that token opens itself
  body_begins : (t : Token) (ts : List Token) → Begins free (d + 1) t ts → TokenOpens free d (t ∷ ts) → Leads free (statement (d + 1)) (t ∷ ts) (stmt s) (u ∷ rest) →
      read free (t ∷ ts) (procedure_body d ∷ due) (heading h ∷ declared acc ∷ vs) ≡ read free rest due (declared (decl_behind acc (trees.procedure h s)) ∷ vs)
  body_begins t ts b o x = by_limit b.limit b.own b.ds b.is
    where
      behind : (ds : List Due) → read free (t ∷ ts) (statement (d + 1) ∷ make with_body ∷ symbol symbols.Semicolon ∷ due) (heading h ∷ declared acc ∷ vs)
          ≡ read free ts (ds ++ make with_body ∷ symbol symbols.Semicolon ∷ due) (heading h ∷ declared acc ∷ vs) →
          read free ts ((ds ++ make with_body ∷ symbol symbols.Semicolon ∷ []) ++ due) (heading h ∷ declared acc ∷ vs)
          ≡ read free rest due (declared (decl_behind acc (trees.procedure h s)) ∷ vs)
      behind ds e = ap (λ x. read free ts x (heading h ∷ declared acc ∷ vs)) (append_assoc ds (make with_body ∷ symbol symbols.Semicolon ∷ []) due)
          ∙ sym e ∙ x _ _ ∙ make_step free (u ∷ rest) with_body _ _ ∙ symbol_step free u rest symbols.Semicolon due _ c

      by_limit : (l : due_data.Limit) → IsOwn free (d + 1) (t ∷ ts) l → (ds : List Due) → ((x : Turn) → turn_start (d + 1) t.spot t.kind x ≡ takes l ds) →
          read free (t ∷ ts) (procedure_body d ∷ due) (heading h ∷ declared acc ∷ vs) ≡ read free rest due (declared (decl_behind acc (trees.procedure h s)) ∷ vs)
      by_limit _ nothing_opened ds is =
          opens_step free d t ts (procedure_body d) (ds ++ make with_body ∷ symbol symbols.Semicolon ∷ []) due _
          (body_turn d t.spot t.kind (takes plain ds) (is refuses) (λ e. cc)) o
          ∙ behind ds (takes_step free t ts (statement (d + 1)) ds _ _ (is (makes (value_put (stmt empty)))))
      by_limit _ (level_opened p) ds is =
          opens_step free (d + 1) t ts (procedure_body d) (ds ++ make with_body ∷ symbol symbols.Semicolon ∷ []) due _
          (body_turn d t.spot t.kind (takes (nests (d + 1)) ds) (is refuses) (λ e. cc)) p
          ∙ behind ds (opens_step free (d + 1) t ts (statement (d + 1)) ds _ _ (is (makes (value_put (stmt empty)))) p)

  body_of : (from : List Token) → IsStmt free (d + 1) from s (u ∷ rest) → TokenOpens free d from → Leads free (statement (d + 1)) from (stmt s) (u ∷ rest) →
      read free from (procedure_body d ∷ due) (heading h ∷ declared acc ∷ vs) ≡ read free rest due (declared (decl_behind acc (trees.procedure h s)) ∷ vs)
  body_of from y o x = by_first (stmt_begins free (d + 1) from s (u ∷ rest) y) o x
    where
      by_begin : (from : List Token) → BeginsAt free (d + 1) from → TokenOpens free d from → Leads free (statement (d + 1)) from (stmt s) (u ∷ rest) →
          read free from (procedure_body d ∷ due) (heading h ∷ declared acc ∷ vs) ≡ read free rest due (declared (decl_behind acc (trees.procedure h s)) ∷ vs)
      by_begin _ (begins_at t ts b) o x = body_begins t ts b o x

      by_first : ((s ≡ empty) × (from ≡ u ∷ rest)) ⊎ BeginsAt free (d + 1) from → TokenOpens free d from → Leads free (statement (d + 1)) from (stmt s) (u ∷ rest) →
          read free from (procedure_body d ∷ due) (heading h ∷ declared acc ∷ vs) ≡ read free rest due (declared (decl_behind acc (trees.procedure h s)) ∷ vs)
      by_first (inl p) o x =
          ap (λ ts. read free ts (procedure_body d ∷ due) (heading h ∷ declared acc ∷ vs)) p.1
          ∙ opens_step free d u rest (procedure_body d) _ due _ (ap (turn_procedure_body d u.spot) c) (subst (TokenOpens free d) p.1 o)
          ∙ make_step free rest _ _ _
          ∙ make_step free rest with_body due _
          ∙ ap (λ s. read free rest due (declared (decl_behind acc (trees.procedure h s)) ∷ vs)) (sym p.0)
      by_first (inr b) o x = by_begin from b o x

-- no specification begins where no declaration does
no_specs : (from : List Token) → NotFirst begins_declaration from → NotFirst (λ k. not (no_spec k)) from
no_specs [] n = tt
no_specs (t ∷ ts) n = no_specification t.kind n

none_declared : (free d : ℕ) (rest : List Token) → NotFirst begins_declaration rest → (due : List Due) (vs : List Value) → read free rest (declarations d ∷ due) vs ≡ read free rest due vs
none_declared free d [] n due vs = skips_end free (declarations d) due vs refl
none_declared free d (t ∷ ts) n due vs = skips_step free t ts (declarations d) due vs (ap (λ x. followed x (declarations d ∷ [])) (by_kind t.kind n))
  where
    by_kind : (k : TokenKind) → begins_declaration k ≡ false → turn_declaration d k skips ≡ skips
    by_kind (kinds.Word reserved.Integer) e = cc
    by_kind (kinds.Word reserved.Real) e = cc
    by_kind (kinds.Word reserved.Boolean) e = cc
    by_kind (kinds.Word reserved.File) e = cc
    by_kind (kinds.Word reserved.Event) e = cc
    by_kind (kinds.Word reserved.Task) e = cc
    by_kind (kinds.Word reserved.Label) e = cc
    by_kind (kinds.Word reserved.Array) e = cc
    by_kind (kinds.Word reserved.Procedure) e = cc
    by_kind k e = refl

mutual
  pub stmt_read : (free d : ℕ) (from : List Token) (s : PStmt) (rest : List Token) → IsStmt free d from s rest → Closes (open_if s) rest →
      Leads free (statement d) from (stmt s) rest
  stmt_read free _ _ _ rest (grammar.nothing d _) end = empty_read free d false rest end
  stmt_read free _ _ _ rest (grammar.labelled t u n d s from _ k c o x) end = λ due vs.
      name_starts free d t n (u ∷ from) due vs k
      ∙ label_step free d t u from (behind_start n d) n.spot _ due vs (ap (turn_behind_start n d) c) o
      ∙ stmt_read free (d + 1) from s rest x end _ vs
      ∙ make_step free rest _ due _
  stmt_read free _ _ _ rest (grammar.assignment t u n es e d from after _ k x c y) end = λ due vs.
      name_starts free d t n from due vs k
      ∙ assigned_read free d n from es e u after rest x c (whole_read free after e rest y (closes_expr false rest end)) due vs
  stmt_read free _ _ _ rest (grammar.calling t n es d from _ k x) end = λ due vs.
      name_starts free d t n from due vs k ∙ called_read free d n false from es rest x end due vs
  stmt_read free _ _ _ rest (grammar.going t u n d from _ w x k) end = λ due vs.
      takes_step free t from (statement d) _ due vs (ap (turn_statement d t.spot) w) ∙ to_read free from u n rest x k _ vs ∙ make_step free rest _ due _
  stmt_read free _ _ _ rest (grammar.compound t u d b from _ w o x e) end = λ due vs.
      opens_step free d t from (statement d) _ due vs (ap (turn_statement d t.spot) w) o ∙ body_read free (d + 1) t.spot from b u rest x e due vs
  stmt_read free _ _ _ rest (grammar.one_armed t u c d s from mid _ w o x h y) end = λ due vs.
      opens_step free d t from (statement d) _ due vs (ap (turn_statement d t.spot) w) o
      ∙ whole_read free from c (u ∷ mid) x (ap (part_ends expr) h) _ vs
      ∙ word_step free u mid reserved.Then _ _ h
      ∙ stmt_read free (d + 1) mid s rest y (weaker (open_if s) rest end) _ _
      ∙ no_else free (d + 1) rest end due _
  stmt_read free _ _ _ rest (grammar.two_armed t u v c d a b from mid after _ w o x h y f e z) end = λ due vs.
      opens_step free d t from (statement d) _ due vs (ap (turn_statement d t.spot) w) o
      ∙ whole_read free from c (u ∷ mid) x (ap (part_ends expr) h) _ vs
      ∙ word_step free u mid reserved.Then _ _ h
      ∙ stmt_read free (d + 1) mid a (v ∷ after) y (else_ v after e f) _ _
      ∙ takes_step free v after (else_part (d + 1)) _ due _ (ap (λ k. reading_turn (else_part (d + 1)) v.spot k) e)
      ∙ stmt_read free (d + 1) after b rest z end _ _
      ∙ make_step free rest _ due _
  stmt_read free _ _ _ rest (grammar.looping t u c d s from mid _ w o x h y) end = λ due vs.
      opens_step free d t from (statement d) _ due vs (ap (turn_statement d t.spot) w) o
      ∙ whole_read free from c (u ∷ mid) x (ap (part_ends expr) h) _ vs
      ∙ word_step free u mid reserved.Do _ _ h
      ∙ stmt_read free (d + 1) mid s rest y end _ _
      ∙ make_step free rest _ due _
  stmt_read free _ _ _ rest (grammar.repeating t u c d s from mid _ w o x h y) end = λ due vs.
      opens_step free d t from (statement d) _ due vs (ap (turn_statement d t.spot) w) o
      ∙ stmt_read free (d + 1) from s (u ∷ mid) x (until_ u mid h) _ vs
      ∙ word_step free u mid reserved.Until _ _ h
      ∙ whole_read free mid c rest y (closes_expr false rest end) _ _
      ∙ make_step free rest _ due _
  stmt_read free _ _ _ rest (grammar.counting t u v w x y n a b c d s from step limit mid _ f o k e g h i j l m r) end = λ due vs.
      opens_step free d t (u ∷ v ∷ from) (statement d) _ due vs (ap (turn_statement d t.spot) f) o
      ∙ named_read free u n (v ∷ from) k _ vs
      ∙ symbol_step free v from symbols.Becomes _ _ e
      ∙ whole_read free from a (w ∷ step) g (ap (part_ends expr) h) _ _
      ∙ word_step free w step reserved.Step _ _ h
      ∙ whole_read free step b (x ∷ limit) i (ap (part_ends expr) j) _ _
      ∙ word_step free x limit reserved.Until _ _ j
      ∙ whole_read free limit c (y ∷ mid) l (ap (part_ends expr) m) _ _
      ∙ word_step free y mid reserved.Do _ _ m
      ∙ stmt_read free (d + 1) mid s rest r end _ _
      ∙ make_step free rest _ due _
  stmt_read free _ _ _ rest (grammar.so_often t u c d s from mid _ w o x h y) end = λ due vs.
      opens_step free d t from (statement d) _ due vs (ap (turn_statement d t.spot) w) o
      ∙ whole_read free from c (u ∷ mid) x (ap (part_ends expr) h) _ vs
      ∙ word_step free u mid reserved.Do _ _ h
      ∙ stmt_read free (d + 1) mid s rest y end _ _
      ∙ make_step free rest _ due _
  stmt_read free _ _ _ rest (grammar.choosing t u v w c d ss from mid _ k o x h i y j) end = λ due vs.
      opens_step free d t from (statement d) _ due vs (ap (turn_statement d t.spot) k) o
      ∙ whole_read free from c (u ∷ v ∷ mid) x (ap (part_ends expr) h) _ vs
      ∙ word_step free u (v ∷ mid) reserved.Of _ _ h
      ∙ word_step free v mid reserved.Begin _ _ i
      ∙ make_step free mid _ _ _
      ∙ stmts_read free (d + 1) mid ss w rest y j no_stmts _ _
      ∙ make_step free rest _ due _
  stmt_read free _ _ _ rest (grammar.processing t u n es task d from mid _ w k x y) end = λ due vs.
      takes_step free t (u ∷ from) (statement d) _ due vs (ap (turn_statement d t.spot) w)
      ∙ named_read free u n from k _ vs
      ∙ actuals_read free from es mid x (task_first mid task rest y (closes_not (is_symbol symbols.OpenRound) refl refl refl refl false rest end)) _ _
      ∙ task_read free mid task rest y (closes_not (is_symbol symbols.OpenSquare) refl refl refl refl false rest end) _ _
      ∙ make_step free rest _ due _
  stmt_read free _ _ _ rest (grammar.acting t u v act e d from _ a o x c) end = λ due vs.
      takes_step free t (u ∷ from) (statement d) _ due vs (act_turn d t.spot t.kind act (makes (value_put (stmt empty))) a)
      ∙ symbol_step free u from symbols.OpenRound _ vs o
      ∙ event_read free from e v rest x c _ vs
      ∙ make_step free rest _ due _
  stmt_read free _ _ _ rest (grammar.writing t u v w x y z n ps es d from mid _ k a b c e f g h i) end = λ due vs.
      takes_step free t (u ∷ v ∷ w ∷ x ∷ from) (statement d) _ due vs (ap (turn_statement d t.spot) k)
      ∙ symbol_step free u (v ∷ w ∷ x ∷ from) symbols.OpenRound _ vs a
      ∙ named_read free v n (w ∷ x ∷ from) b _ vs
      ∙ symbol_step free w (x ∷ from) symbols.Comma _ _ c
      ∙ takes_step free x from angle _ _ _ (ap (turn_angle x.spot) e)
      ∙ make_step free from _ _ _
      ∙ make_step free from _ _ _
      ∙ phrases_on free from ps (y ∷ mid) f (ap (is_symbol symbols.Comma) g) [] _ _
      ∙ symbol_step free y mid symbols.Greater _ _ g
      ∙ items_read free mid es z rest h i _ _
      ∙ make_step free rest _ due _

  -- statements after others, and the END after them
  pub stmts_read : (free d : ℕ) (from : List Token) (ss : PStmts) (u : Token) (rest : List Token) → IsStmts free d from ss (u ∷ rest) → IsWord reserved.End u →
      (acc : PStmts) (due : List Due) (vs : List Value) →
      read free from (statement d ∷ make stmt_added ∷ stmts_more d ∷ word reserved.End ∷ due) (list acc ∷ vs) ≡ read free rest due (list (stmts_and acc ss) ∷ vs)
  stmts_read free _ from _ u rest (grammar.last d s _ _ x) e acc due vs =
      stmt_read free d from s (u ∷ rest) x (ending u rest e) _ _
      ∙ make_step free (u ∷ rest) stmt_added _ _
      ∙ left_out free (stmts_more d) (is_symbol symbols.Semicolon) _ (λ spot k. refl) refl (u ∷ rest) (ap (is_symbol symbols.Semicolon) e) _ _
      ∙ word_step free u rest reserved.End due _ e
      ∙ ap (λ ss. read free rest due (list ss ∷ vs)) (behind_stmts acc s)
  stmts_read free _ from _ u rest (grammar.semicolon t d s ss _ mid _ x c y) e acc due vs =
      stmt_read free d from s (t ∷ mid) x (semi t mid c) _ _
      ∙ make_step free (t ∷ mid) stmt_added _ _
      ∙ gone_on free (stmts_more d) (is_symbol symbols.Semicolon) _ skips (λ spot k. refl) t mid (symbol_is t symbols.Semicolon c) _ _
      ∙ stmts_read free d mid ss u rest y e (stmt_behind acc s) due vs
      ∙ ap (λ ss. read free rest due (list ss ∷ vs)) (stmts_behind acc s ss)

  -- a declaration and its semicolon
  decl_read : (free d : ℕ) (from : List Token) (ds : PDecls) (u : Token) (mid : List Token) → IsDecl free d from ds (u ∷ mid) → IsSymbol symbols.Semicolon u →
      (acc : PDecls) (due : List Due) (vs : List Value) →
      read free from (declarations d ∷ due) (declared acc ∷ vs) ≡ read free mid (declarations d ∷ due) (declared (decls_and acc ds) ∷ vs)
  decl_read free _ _ _ u mid (grammar.values t kind ns d from _ k x) s acc due vs =
      typed_starts free d due t kind from k _
      ∙ names_by_first free (typed kind d) (make (names_declared (trees.simple kind)) ∷ symbol symbols.Semicolon ∷ []) (λ spot name. refl) from ns (u ∷ mid) x
      (ap (is_symbol symbols.Comma) s) _ _
      ∙ make_step free (u ∷ mid) _ _ _
      ∙ symbol_step free u mid symbols.Semicolon _ _ s
      ∙ ap (λ ds. read free mid (declarations d ∷ due) (declared ds ∷ vs)) (behind_decls acc (trees.simple kind ns))
  decl_read free _ _ _ u mid (grammar.printers t ns d from _ w x) s acc due vs =
      word_starts free d due t from _ _ w refl _
      ∙ files_read free from ns (u ∷ mid) x (ap (is_symbol symbols.Comma) s) (ap (is_symbol symbols.OpenRound) s) _ _
      ∙ make_step free (u ∷ mid) _ _ _
      ∙ symbol_step free u mid symbols.Semicolon _ _ s
      ∙ ap (λ ds. read free mid (declarations d ∷ due) (declared ds ∷ vs)) (behind_decls acc (trees.files ns))
  decl_read free _ _ _ u mid (grammar.happenings t ns d from _ w x) s acc due vs =
      word_starts free d due t from _ _ w refl _
      ∙ names_read free from ns (u ∷ mid) x (ap (is_symbol symbols.Comma) s) _ _
      ∙ make_step free (u ∷ mid) _ _ _
      ∙ symbol_step free u mid symbols.Semicolon _ _ s
      ∙ ap (λ ds. read free mid (declarations d ∷ due) (declared ds ∷ vs)) (behind_decls acc (trees.events ns))
  decl_read free _ _ _ u mid (grammar.workers t ns d from _ w x) s acc due vs =
      word_starts free d due t from _ _ w refl _
      ∙ names_read free from ns (u ∷ mid) x (ap (is_symbol symbols.Comma) s) _ _
      ∙ make_step free (u ∷ mid) _ _ _
      ∙ symbol_step free u mid symbols.Semicolon _ _ s
      ∙ ap (λ ds. read free mid (declarations d ∷ due) (declared ds ∷ vs)) (behind_decls acc (trees.tasks ns))
  decl_read free _ _ _ u mid (grammar.places t ns d from _ w x) s acc due vs =
      word_starts free d due t from _ _ w refl _
      ∙ names_read free from ns (u ∷ mid) x (ap (is_symbol symbols.Comma) s) _ _
      ∙ make_step free (u ∷ mid) _ _ _
      ∙ symbol_step free u mid symbols.Semicolon _ _ s
      ∙ ap (λ ds. read free mid (declarations d ∷ due) (declared ds ∷ vs)) (behind_decls acc (trees.labels ns))
  decl_read free _ from _ u mid (grammar.rows t kind ds d _ after _ x w y) s acc due vs =
      rows_start free d due from kind t after x w _
      ∙ segments_on free (elements_of kind) after ds (u ∷ mid) y (ap (is_symbol symbols.Comma) s) acc _ vs
      ∙ symbol_step free u mid symbols.Semicolon _ _ s
  decl_read free _ from _ u mid (grammar.announced t h d _ _ x w) s acc due vs =
      heading_read free d due from h (t ∷ u ∷ mid) x (ap (λ k. not (no_spec k)) w) _
      ∙ takes_step free t (u ∷ mid) (procedure_body d) _ _ _ (ap (turn_procedure_body d t.spot) w)
      ∙ make_step free (u ∷ mid) announced _ _
      ∙ symbol_step free u mid symbols.Semicolon _ _ s
      ∙ ap (λ ds. read free mid (declarations d ∷ due) (declared ds ∷ vs)) (behind_decls acc (trees.forward h))
  decl_read free _ from _ u mid (grammar.with_body h s d _ body _ x o y) c acc due vs =
      heading_read free d due from h body x (no_specs body (stmt_first free (d + 1) body s (u ∷ mid) y (ap begins_declaration c))) _
      ∙ body_of free d (declarations d ∷ due) s u mid c h acc vs body y o (stmt_read free (d + 1) body s (u ∷ mid) y (semi u mid c))
      ∙ ap (λ ds. read free mid (declarations d ∷ due) (declared ds ∷ vs)) (behind_decls acc (trees.procedure h s))

  -- declarations after others
  pub decls_read : (free d : ℕ) (from : List Token) (ds : PDecls) (rest : List Token) → IsDecls free d from ds rest → NotFirst begins_declaration rest →
      (acc : PDecls) (due : List Due) (vs : List Value) → read free from (declarations d ∷ due) (declared acc ∷ vs) ≡ read free rest due (declared (decls_and acc ds) ∷ vs)
  decls_read free _ _ _ rest (grammar.no_more d _) end acc due vs =
      none_declared free d rest end due _ ∙ ap (λ ds. read free rest due (declared ds ∷ vs)) (sym (decls_and_none acc))
  decls_read free _ from _ rest (grammar.another t d ds es _ mid _ x c y) end acc due vs =
      decl_read free d from ds t mid x c acc due vs
      ∙ decls_read free d mid es rest y end (decls_and acc ds) due vs
      ∙ ap (λ ds. read free rest due (declared ds ∷ vs)) (decls_and_assoc acc ds es)

  -- a block's body and its END
  body_read : (free d : ℕ) (spot : Spot) (from : List Token) (b : PBody) (u : Token) (rest : List Token) → IsBody free d spot from b (u ∷ rest) → IsWord reserved.End u →
      (due : List Due) (vs : List Value) → read free from (body_in d (due_stmt.compound spot) ++ due) vs ≡ read free rest due (stmt (trees.block b) ∷ vs)
  body_read free _ _ from _ u rest (grammar.declared d spot ds ss _ mid _ x y) e due vs =
      make_step free from _ _ vs
      ∙ decls_read free d from ds mid x (stmts_first free d mid ss u rest y e) no_decls _ vs
      ∙ make_step free mid _ _ _
      ∙ stmts_read free d mid ss u rest y e no_stmts _ _
      ∙ make_step free rest _ due _

-- what the grammar has as a program is read as it
pub program_read : (free : ℕ) (from : List Token) (p : trees.PProgram) (rest : List Token) → IsProgram free from p rest → Leads free due_data.program from (due_data.whole_program p) rest
program_read free _ _ rest (programs.whole t u v _ from _ w (grammar.declared _ _ ds ss _ mid _ x y) e q) due vs =
    opens_step free 0 t from due_data.program _ due vs (ap (λ k. reading_turn due_data.program t.spot k) w) (inl (omega arith))
    ∙ make_step free from _ _ vs
    ∙ decls_read free 1 from ds mid x (stmts_first free 1 mid ss u (v ∷ rest) y e) no_decls _ vs
    ∙ make_step free mid _ _ _
    ∙ stmts_read free 1 mid ss u (v ∷ rest) y e no_stmts _ _
    ∙ symbol_step free v rest symbols.Period _ _ q
    ∙ make_step free rest _ due _
