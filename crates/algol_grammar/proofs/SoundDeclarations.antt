-- What is read of a declaration, and of a program, is of the grammar.
use Rattle.std.proofs.Common.{◌≡◌, ◌+◌, ℕ, Bool, true, false, List, [], ◌∷◌, ◌++◌, Option, Some, None, refl, sym, ap, ◌∙◌, inl, inr, arith}
use Rattle.algol_tree.specs.declared.token.Spot.{Spot}
use Rattle.algol_tree.specs.declared.token.Token.{Token}
use Rattle.algol_tree.specs.declared.token.TokenKind.{TokenKind}
use Rattle.algol_tree.specs.declared.token.TokenKind.TheVariants as kinds
use Rattle.algol_tree.specs.declared.token.Reserved.TheVariants as reserved
use Rattle.algol_tree.specs.declared.token.Symbol.TheVariants as symbols
use Rattle.algol_tree.specs.declared.tree.Named.{Named}
use Rattle.algol_tree.specs.declared.tree.Heading.{Heading}
use Rattle.algol_tree.specs.declared.tree.Kind.{Kind}
use Rattle.algol_tree.specs.declared.tree.Kind.TheVariants as types
use Rattle.algol_tree.specs.Plain as trees
use Rattle.algol_tree.specs.Plain.{PStmt, PStmts, empty, PDecl, PDecls, no_decls, decls}
use Rattle.algol_tree.specs.Tokens.{IsWord, IsSymbol, IsName, is_word}
use Rattle.algol_tree.specs.Expressions.{TokenOpens}
use Rattle.algol_tree.specs.Headings.{type_of, IsTyped, untyped, elements_of, IsNames, IsFiles, IsHeading}
use Rattle.algol_tree.specs.Headings as headings
use Rattle.algol_tree.specs.Statements as grammar
use Rattle.algol_tree.specs.Statements.{act_of, IsSegments, decls_and, IsStmts, IsDecl, IsDecls}
use Rattle.algol_tree.specs.Programs.{IsProgram}
use Rattle.algol_tree.specs.Programs as programs
use Rattle.algol_tree.specs.Due.{Value, name_is, names, heading, stmt, list, declared, whole_program, value_put, Due, make, symbol, word, named, behind_procedure, statement, stmts_more, declarations, typed, procedure_body, Limit, Turn, takes, makes, skips, closes, refuses, plain, nests, label, begun, followed, either, optional}
use Rattle.algol_tree.specs.Due as due_data
use Rattle.algol_tree.specs.DueStmt.{names_declared, segment_in, announced, with_body, programmed, stmt_added, procedure_in, turn_start, turn_typed, turn_declaration, turn_declarations, turn_entered, turn_procedure_body}
use Rattle.algol_expr.proofs.Turns.{word_from}
use Rattle.algol_expr.proofs.Sound.{single, makes_it}
use Rattle.algol_grammar.proofs.Complete.{decls_and_none, decls_and_assoc}
use Rattle.algol_grammar.proofs.Lists.{behind_decls}
use Rattle.algol_grammar.proofs.Meant.{Gives, gives, one_name, IsClosed, IsEnded, ended, IsDue, IsAll, nil, cons, in_two, Taken}
use Rattle.algol_grammar.proofs.Given.{Then, given, regive, put_given, split}
use Rattle.algol_grammar.proofs.SoundHeadings.{names_from, names_then, files_then}
use Rattle.algol_grammar.proofs.SoundLists.{back_segments}
use Rattle.algol_grammar.proofs.SoundStatements.{back_start, body_end}

-- names that are declared so, and their semicolon
data IsNamed (P : List Token → List Named → List Token → Type 0) (f : List Named → PDecl) : List Token → PDecls → List Token → Type 0 where
  names_of : (u : Token) (ns : List Named) (from rest : List Token) → P from ns (u ∷ rest) → IsSymbol symbols.Semicolon u → IsNamed P f from (decls (f ns) no_decls) rest

by_names : (free : ℕ) (P : List Token → List Named → List Token → Type 0) (f : List Named → PDecl) (from : List Token) (vs ws : List Value) (rest : List Token) →
    Then P names free (make (names_declared f) ∷ symbol symbols.Semicolon ∷ []) from vs ws rest → (acc : PDecls) (below : List Value) → vs ≡ declared acc ∷ below →
    Gives (IsNamed P f) (λ ds. declared (decls_and acc ds)) from below ws rest
by_names free P f from vs ws rest r acc below is = by_end r.a r.mid r.is ws rest r.second
  where
    by_end : (ns : List Named) (mid : List Token) → P from ns mid → (ws : List Value) (rest : List Token) →
        IsAll free (make (names_declared f) ∷ symbol symbols.Semicolon ∷ []) (names ns ∷ vs) mid ws rest → Gives (IsNamed P f) (λ ds. declared (decls_and acc ds)) from below ws rest
    by_end ns _ p _ _ (cons _ _ _ _ _ _ _ _ makes_it (cons _ _ _ _ _ _ _ _ (single u rest s) (nil _ _))) = put_given (decls (f ns) no_decls)
        (ap (λ us. names_declared f (names ns ∷ us)) is ∙ ap (λ ds. declared ds ∷ below) (behind_decls acc (f ns))) (names_of u ns from rest p s)

module _ (free d : ℕ) (t : Token) (ts : List Token) where
  by_files : (ds : PDecls) (rest : List Token) → IsWord reserved.File t → IsNamed IsFiles trees.files ts ds rest → IsEnded free d (t ∷ ts) ds rest
  by_files _ _ w (names_of u ns _ rest x s) = ended u _ (t ∷ ts) rest (grammar.printers t ns d ts (u ∷ rest) w x) s

  by_events : (ds : PDecls) (rest : List Token) → IsWord reserved.Event t → IsNamed IsNames trees.events ts ds rest → IsEnded free d (t ∷ ts) ds rest
  by_events _ _ w (names_of u ns _ rest x s) = ended u _ (t ∷ ts) rest (grammar.happenings t ns d ts (u ∷ rest) w x) s

  by_tasks : (ds : PDecls) (rest : List Token) → IsWord reserved.Task t → IsNamed IsNames trees.tasks ts ds rest → IsEnded free d (t ∷ ts) ds rest
  by_tasks _ _ w (names_of u ns _ rest x s) = ended u _ (t ∷ ts) rest (grammar.workers t ns d ts (u ∷ rest) w x) s

  by_labels : (ds : PDecls) (rest : List Token) → IsWord reserved.Label t → IsNamed IsNames trees.labels ts ds rest → IsEnded free d (t ∷ ts) ds rest
  by_labels _ _ w (names_of u ns _ rest x s) = ended u _ (t ∷ ts) rest (grammar.places t ns d ts (u ∷ rest) w x) s

  by_values : (kind : Kind) (ds : PDecls) (rest : List Token) → type_of t.kind ≡ Some kind → IsNamed IsNames (trees.simple kind) ts ds rest → IsEnded free d (t ∷ ts) ds rest
  by_values kind _ _ k (names_of u ns _ rest x s) = ended u _ (t ∷ ts) rest (grammar.values t kind ns d ts (u ∷ rest) k x) s

-- segments and their semicolon
data IsRows (free : ℕ) (kind : Kind) : List Token → PDecls → List Token → Type 0 where
  rows_of : (u : Token) (ds : PDecls) (from rest : List Token) → IsSegments free kind from ds (u ∷ rest) → IsSymbol symbols.Semicolon u → IsRows free kind from ds rest

by_rows : (free : ℕ) (kind : Kind) (from : List Token) (vs ws : List Value) (rest : List Token) → IsAll free (segment_in kind ++ symbol symbols.Semicolon ∷ []) vs from ws rest →
    (acc : PDecls) (below : List Value) → vs ≡ declared acc ∷ below → Gives (IsRows free kind) (λ ds. declared (decls_and acc ds)) from below ws rest
by_rows free kind from vs ws rest x acc below is =
    let r = in_two free (segment_in kind) (symbol symbols.Semicolon ∷ []) vs from ws rest x in
    let g = given (back_segments free kind vs r.us from r.mid r.first acc below is) r.second in by_end g.a g.mid g.is ws rest g.second
  where
    by_end : (ds : PDecls) (mid : List Token) → IsSegments free kind from ds mid → (ws : List Value) (rest : List Token) →
        IsAll free (symbol symbols.Semicolon ∷ []) (declared (decls_and acc ds) ∷ below) mid ws rest → Gives (IsRows free kind) (λ ds. declared (decls_and acc ds)) from below ws rest
    by_end ds _ x _ _ (cons _ _ _ _ _ _ _ _ (single u rest s) (nil _ _)) = gives ds rest (rows_of u ds from rest x s)

rows_ended : (free d : ℕ) (o : Option Kind) (t : Token) (before ts rest : List Token) (ds : PDecls) → IsTyped before o (t ∷ ts) → IsWord reserved.Array t → IsRows free (elements_of o) ts ds rest →
    IsEnded free d before ds rest
rows_ended free d o t before ts _ _ x w (rows_of u ds _ rest y s) = ended u ds before rest (grammar.rows t o ds d before ts (u ∷ rest) x w y) s

-- a procedure after its word
by_procedure : (free d : ℕ) (kind : Option Kind) (from : List Token) (vs ws : List Value) (rest : List Token) → IsAll free (procedure_in kind d) vs from ws rest →
    (acc : PDecls) (below : List Value) → vs ≡ declared acc ∷ below →
    Gives (λ from ds rest. (before : List Token) (t : Token) → IsTyped before kind (t ∷ from) → IsWord reserved.Procedure t → IsEnded free d before ds rest)
    (λ ds. declared (decls_and acc ds)) from below ws rest
by_procedure free d kind _ vs ws rest (cons _ _ _ _ _ _ _ _ (gives n _ (one_name u _ mid k)) (cons _ _ _ _ _ _ _ _ f y)) acc below is =
    let r = given (f n vs refl) y in by_body r.a r.mid r.is ws rest r.second
  where
    by_body : (h : Heading) (after : List Token) →
        ((before : List Token) (t v : Token) → IsTyped before kind (t ∷ v ∷ mid) → IsWord reserved.Procedure t → IsName n v → IsHeading before h after) → (ws : List Value) (rest : List Token) →
        IsAll free (procedure_body d ∷ []) (heading h ∷ vs) after ws rest →
        Gives (λ from ds rest. (before : List Token) (t : Token) → IsTyped before kind (t ∷ from) → IsWord reserved.Procedure t → IsEnded free d before ds rest)
        (λ ds. declared (decls_and acc ds)) (u ∷ mid) below ws rest
    by_body h after p ws rest (cons _ _ _ _ _ _ _ _ g (nil _ _)) = regive _ _ (u ∷ mid) (g h acc below (ap (λ us. heading h ∷ us) is)) (λ ds. ds)
        (λ ds rest q. λ before t x w. q before (p before t u x w k)) (λ ds. refl)

-- one declaration and its semicolon
module _ (free d : ℕ) (t : Token) (ts : List Token) (vs ws : List Value) (rest : List Token) (acc : PDecls) (below : List Value) (is : vs ≡ declared acc ∷ below) where
  by_type : (o : Option Kind) → type_of t.kind ≡ o → Taken free (optional o (λ kind. typed kind d ∷ []) skips) t ts vs ws rest →
      Gives (IsEnded free d) (λ ds. declared (decls_and acc ds)) (t ∷ ts) below ws rest
  by_type None e x = absurd x
  by_type (Some kind) e (cons _ _ _ _ _ _ _ _ f (nil _ _)) = regive _ _ (t ∷ ts) (f acc below is) (λ ds. ds) (λ ds rest p. p t e) (λ ds. refl)

  back_declaration : (k : TokenKind) → t.kind ≡ k → Taken free (turn_declaration d k skips) t ts vs ws rest →
      Gives (IsEnded free d) (λ ds. declared (decls_and acc ds)) (t ∷ ts) below ws rest
  back_declaration (kinds.Word reserved.File) w x = regive _ _ (t ∷ ts) (by_names free IsFiles trees.files ts vs ws rest (files_then free _ vs ws ts rest x) acc below is)
      (λ ds. ds) (λ ds rest p. by_files free d t ts ds rest w p) (λ ds. refl)
  back_declaration (kinds.Word reserved.Event) w x = regive _ _ (t ∷ ts) (by_names free IsNames trees.events ts vs ws rest (names_then free _ vs ws rest ts x) acc below is)
      (λ ds. ds) (λ ds rest p. by_events free d t ts ds rest w p) (λ ds. refl)
  back_declaration (kinds.Word reserved.Task) w x = regive _ _ (t ∷ ts) (by_names free IsNames trees.tasks ts vs ws rest (names_then free _ vs ws rest ts x) acc below is)
      (λ ds. ds) (λ ds rest p. by_tasks free d t ts ds rest w p) (λ ds. refl)
  back_declaration (kinds.Word reserved.Label) w x = regive _ _ (t ∷ ts) (by_names free IsNames trees.labels ts vs ws rest (names_then free _ vs ws rest ts x) acc below is)
      (λ ds. ds) (λ ds rest p. by_labels free d t ts ds rest w p) (λ ds. refl)
  back_declaration (kinds.Word reserved.Array) w x = regive _ _ (t ∷ ts) (by_rows free types.Number ts vs ws rest x acc below is)
      (λ ds. ds) (λ ds rest p. rows_ended free d None t (t ∷ ts) ts rest ds (untyped (t ∷ ts)) w p) (λ ds. refl)
  back_declaration (kinds.Word reserved.Procedure) w x = regive _ _ (t ∷ ts) (by_procedure free d None ts vs ws rest x acc below is)
      (λ ds. ds) (λ ds rest p. p (t ∷ ts) t (untyped (t ∷ ts)) w) (λ ds. refl)
  back_declaration k e x = by_type (type_of k) (ap type_of e) x

pub no_declarations : (free d : ℕ) (vs : List Value) (from : List Token) → IsDue free (declarations d) vs from vs from
no_declarations free d vs from = λ acc below is. put_given no_decls (is ∙ ap (λ ds. declared ds ∷ below) (sym (decls_and_none acc))) (grammar.no_more d from)

pub back_declarations : (free d : ℕ) (t : Token) (ts : List Token) (vs ws : List Value) (rest : List Token) → Taken free (turn_declarations d t.kind) t ts vs ws rest →
    IsDue free (declarations d) vs (t ∷ ts) ws rest
back_declarations free d t ts vs ws rest x = λ acc below is.
    let s = split free (turn_declaration d t.kind skips) (declarations d ∷ []) t ts vs ws rest x in
    let r = given (back_declaration free d t ts vs s.us s.mid acc below is t.kind refl s.first) s.second in by_more acc below r.a r.mid r.is ws rest r.second
  where
    another : (ds es : PDecls) (mid rest : List Token) → IsEnded free d (t ∷ ts) ds mid → IsDecls free d mid es rest → IsDecls free d (t ∷ ts) (decls_and ds es) rest
    another _ es _ rest (ended u ds _ mid x s) y = grammar.another u d ds es (t ∷ ts) mid rest x s y

    by_more : (acc : PDecls) (below : List Value) (ds : PDecls) (mid : List Token) → IsEnded free d (t ∷ ts) ds mid → (ws : List Value) (rest : List Token) →
        IsAll free (declarations d ∷ []) (declared (decls_and acc ds) ∷ below) mid ws rest → Gives (IsDecls free d) (λ ds. declared (decls_and acc ds)) (t ∷ ts) below ws rest
    by_more acc below ds mid y ws rest (cons _ _ _ _ _ _ _ _ f (nil _ _)) = regive _ _ (t ∷ ts) (f (decls_and acc ds) below refl) (λ es. decls_and ds es)
        (λ es rest z. another ds es mid rest y z) (λ es. ap declared (decls_and_assoc acc ds es))

pub back_typed : (free : ℕ) (kind : Kind) (d : ℕ) (t : Token) (ts : List Token) (vs ws : List Value) (rest : List Token) (k : TokenKind) → t.kind ≡ k →
    Taken free (turn_typed kind d t.spot k) t ts vs ws rest → IsDue free (typed kind d) vs (t ∷ ts) ws rest
back_typed free kind d t ts vs ws rest (kinds.Name name) k (cons _ _ _ _ _ _ _ _ makes_it x) = λ acc below is.
    regive _ _ (t ∷ ts) (by_names free IsNames (trees.simple kind) (t ∷ ts) vs ws rest
    (names_from free _ vs ws rest t (record { name = name; spot = t.spot }) ts (record { name = k; place = refl }) x) acc below is) (λ ds. ds)
    (λ ds rest p. λ u e. by_values free d u (t ∷ ts) kind ds rest e p) (λ ds. refl)
back_typed free kind d t ts vs ws rest (kinds.Word reserved.Array) w x = λ acc below is. regive _ _ (t ∷ ts) (by_rows free kind ts vs ws rest x acc below is)
    (λ ds. ds) (λ ds rest p. λ u e. rows_ended free d (Some kind) t (u ∷ t ∷ ts) ts rest ds (headings.typed u kind (t ∷ ts) e) w p) (λ ds. refl)
back_typed free kind d t ts vs ws rest (kinds.Word reserved.Procedure) w x = λ acc below is. regive _ _ (t ∷ ts) (by_procedure free d (Some kind) ts vs ws rest x acc below is)
    (λ ds. ds) (λ ds rest p. λ u e. p (u ∷ t ∷ ts) t (headings.typed u kind (t ∷ ts) e) w) (λ ds. refl)
back_typed free kind d t ts vs ws rest k e x = absurd x

-- the levels that a statement opens at its first token
abbrev pub StartsAt : ℕ → Turn → Type 0
StartsAt n (takes plain ds) = Unit {0}
StartsAt n (takes (nests m) ds) = m ≡ n
StartsAt n (takes l ds) = ⊥
StartsAt n refuses = Unit {0}
StartsAt n x = ⊥

pub starts_at : (d : ℕ) (spot : Spot) (k : TokenKind) → StartsAt d (turn_start d spot k refuses)
starts_at d spot (kinds.Name name) = tt
starts_at d spot (kinds.Word reserved.Cause) = tt
starts_at d spot (kinds.Word reserved.CauseAndReset) = tt
starts_at d spot (kinds.Word reserved.Reset) = tt
starts_at d spot (kinds.Word reserved.Wait) = tt
starts_at d spot (kinds.Word reserved.Procure) = tt
starts_at d spot (kinds.Word reserved.Liberate) = tt
starts_at d spot (kinds.Word reserved.Begin) = refl
starts_at d spot (kinds.Word reserved.If) = refl
starts_at d spot (kinds.Word reserved.While) = refl
starts_at d spot (kinds.Word reserved.Do) = refl
starts_at d spot (kinds.Word reserved.For) = refl
starts_at d spot (kinds.Word reserved.Thru) = refl
starts_at d spot (kinds.Word reserved.Case) = refl
starts_at d spot (kinds.Word reserved.Go) = tt
starts_at d spot (kinds.Word reserved.Process) = tt
starts_at d spot (kinds.Word reserved.Write) = tt
starts_at d spot k = tt

record Entered (free d : ℕ) (x : Turn) (t : Token) (ts : List Token) (vs ws : List Value) (rest : List Token) : Type 0 where
  us : List Value
  mid : List Token
  opens : TokenOpens free d (t ∷ ts)
  first : Taken free x t ts vs us mid
  second : IsAll free (make with_body ∷ symbol symbols.Semicolon ∷ []) us mid ws rest

entered_by : (free d : ℕ) (x : Turn) (t : Token) (ts : List Token) (vs ws : List Value) (rest : List Token) → StartsAt (d + 1) x → Taken free (turn_entered d x) t ts vs ws rest →
    Entered free d x t ts vs ws rest
entered_by free d (takes plain ds) t ts vs ws rest s a =
    let r = in_two free ds (make with_body ∷ symbol symbols.Semicolon ∷ []) vs ts ws rest a.1 in record { us = r.us; mid = r.mid; opens = a.0; first = r.first; second = r.second }
entered_by free d (takes (nests m) ds) t ts vs ws rest s a =
    let r = in_two free ds (make with_body ∷ symbol symbols.Semicolon ∷ []) vs ts ws rest a.1 in record { us = r.us; mid = r.mid; opens = below a.0; first = (a.0, r.first); second = r.second }
  where
    below : TokenOpens free m (t ∷ ts) → TokenOpens free d (t ∷ ts)
    below (inl lt) = inl (omega (arith, lt, s))
    below (inr le) = inr le
entered_by free d (takes (label m spot) ds) t ts vs ws rest s a = absurd s
entered_by free d (takes (begun l) ds) t ts vs ws rest s a = absurd s
entered_by free d (makes m) t ts vs ws rest s a = absurd s
entered_by free d skips t ts vs ws rest s a = absurd s
entered_by free d closes t ts vs ws rest s a = absurd s
entered_by free d refuses t ts vs ws rest s a = absurd a

pub back_procedure_body : (free d : ℕ) (t : Token) (ts : List Token) (vs ws : List Value) (rest : List Token) (k : TokenKind) → t.kind ≡ k →
    Taken free (turn_procedure_body d t.spot k) t ts vs ws rest → IsDue free (procedure_body d) vs (t ∷ ts) ws rest
back_procedure_body free d t _ vs _ _ (kinds.Word reserved.Forward) w (cons _ _ _ _ _ _ _ _ makes_it (cons _ _ _ _ _ _ _ _ (single u rest s) (nil _ _))) = λ h acc below is.
    put_given (decls (trees.forward h) no_decls) (ap announced is ∙ ap (λ ds. declared ds ∷ below) (behind_decls acc (trees.forward h)))
    (λ before x. ended u _ before rest (grammar.announced t h d before (u ∷ rest) x w) s)
back_procedure_body free d t ts vs _ _ (kinds.Symbol symbols.Semicolon) s (o, cons _ _ _ _ _ _ _ _ makes_it (cons _ _ _ _ _ _ _ _ makes_it (nil _ _))) = λ h acc below is.
    put_given (decls (trees.procedure h empty) no_decls) (ap (λ us. with_body (stmt empty ∷ us)) is ∙ ap (λ ds. declared ds ∷ below) (behind_decls acc (trees.procedure h empty)))
    (λ before x. ended t _ before ts (grammar.with_body h empty d before (t ∷ ts) (t ∷ ts) x o (grammar.nothing (d + 1) (t ∷ ts))) s)
back_procedure_body free d t ts vs ws rest k e x =
    let r = entered_by free d (turn_start (d + 1) t.spot k refuses) t ts vs ws rest (starts_at (d + 1) t.spot k) x in
    let g = given (back_start free (d + 1) t ts vs r.us r.mid k e refuses (λ no. no) r.first) r.second in by_end r.opens g.a g.mid g.is ws rest g.second
  where
    by_end : TokenOpens free d (t ∷ ts) → (s : PStmt) (mid : List Token) → IsClosed free (d + 1) (t ∷ ts) s mid → (ws : List Value) (rest : List Token) →
        IsAll free (make with_body ∷ symbol symbols.Semicolon ∷ []) (stmt s ∷ vs) mid ws rest → IsDue free (procedure_body d) vs (t ∷ ts) ws rest
    by_end o s _ y _ _ (cons _ _ _ _ _ _ _ _ makes_it (cons _ _ _ _ _ _ _ _ (single u rest c) (nil _ _))) = λ h acc below is.
        put_given (decls (trees.procedure h s) no_decls) (ap (λ us. with_body (stmt s ∷ us)) is ∙ ap (λ ds. declared ds ∷ below) (behind_decls acc (trees.procedure h s)))
        (λ before x. ended u _ before rest (grammar.with_body h s d before (t ∷ ts) (u ∷ rest) x o y.reads) c)

pub back_program : (free : ℕ) (b : Bool) (t : Token) (ts : List Token) (vs ws : List Value) (rest : List Token) → is_word reserved.Begin t.kind ≡ b →
    Taken free (either b (takes (nests 0) (make (value_put (declared no_decls)) ∷ declarations 1 ∷ make (value_put (list trees.no_stmts)) ∷ statement 1 ∷ make stmt_added ∷ stmts_more 1
    ∷ word reserved.End ∷ symbol symbols.Period ∷ make (programmed t.spot) ∷ [])) refuses) t ts vs ws rest → IsDue free due_data.program vs (t ∷ ts) ws rest
back_program free false t ts vs ws rest e x = absurd x
back_program free true t ts vs ws rest e (o, x) =
    let r = body_end free 1 (symbol symbols.Period ∷ make (programmed t.spot) ∷ []) vs ws ts rest x in by_end r.ds r.ss r.u r.mid r.after r.declares r.reads r.closes ws rest r.second
  where
    by_end : (ds : PDecls) (ss : PStmts) (u : Token) (mid after : List Token) → IsDecls free 1 ts ds mid → IsStmts free 1 mid ss (u ∷ after) → IsWord reserved.End u →
        (ws : List Value) (rest : List Token) → IsAll free (symbol symbols.Period ∷ make (programmed t.spot) ∷ []) (list ss ∷ declared ds ∷ vs) after ws rest →
        IsDue free due_data.program vs (t ∷ ts) ws rest
    by_end ds ss u mid _ x y w _ _ (cons _ _ _ _ _ _ _ _ (single v rest p) (cons _ _ _ _ _ _ _ _ makes_it (nil _ _))) = gives (trees.program (trees.body t.spot ds ss)) rest
        (programs.whole t u v (trees.body t.spot ds ss) ts rest (word_from t.kind reserved.Begin e) (grammar.declared 1 t.spot ds ss ts mid (u ∷ v ∷ rest) x y) w p)
