-- What a token is to a statement or a declaration that is due.
use Rattle.std.specs.Prelude.{◌+◌, ℕ, List, [], ◌∷◌, ◌++◌, Option, Some, None}
use Rattle.algol_tree.specs.declared.token.Spot.{Spot}
use Rattle.algol_tree.specs.declared.token.TokenKind.{TokenKind}
use Rattle.algol_tree.specs.declared.token.TokenKind.TheVariants as kinds
use Rattle.algol_tree.specs.declared.token.Reserved.TheVariants as reserved
use Rattle.algol_tree.specs.declared.token.Symbol.TheVariants as symbols
use Rattle.algol_tree.specs.declared.tree.Named.{Named}
use Rattle.algol_tree.specs.declared.tree.Kind.{Kind}
use Rattle.algol_tree.specs.declared.tree.Kind.TheVariants as types
use Rattle.b67_deeds.specs.declared.EventAct.{EventAct}
use Rattle.algol_tree.specs.declared.tree.PhraseText.{PhraseText}
use Rattle.algol_tree.specs.Plain as trees
use Rattle.algol_tree.specs.Plain.{PExprs, subscripted, called, none, PStmt, PStmts, no_stmts, stmts, PDecl, PDecls, no_decls, decls}
use Rattle.algol_tree.specs.Tokens.{is_word, is_symbol}
use Rattle.algol_tree.specs.Headings.{type_of}
use Rattle.algol_tree.specs.Statements.{act_of, phrase_of}
use Rattle.algol_tree.specs.DueExpr.{list_made}
use Rattle.algol_tree.specs.DueDecl.{names_in_list, files_in}
use Rattle.algol_tree.specs.Due.{one, many, event_named, name_is, names, low, pairs, heading, task, place, phrases, stmt, list, declared, whole_program, Make, value_put, Due, make, word, symbol, event, whole, named, names_more, literal, behind_procedure, wholes_more, actuals_part, items_part, pairs_more, segments_more, task_part, to_part, angle, phrase, phrases_more, statement, behind_start, else_part, stmts_more, declarations, typed, procedure_body, Turn, takes, makes, skips, refuses, plain, nests, label, followed, either, optional}

-- a statement after others, a declaration after others
abbrev pub stmt_behind : PStmts → PStmt → PStmts
stmt_behind no_stmts s = stmts s no_stmts
stmt_behind (stmts x ss) s = stmts x (stmt_behind ss s)

abbrev pub decl_behind : PDecls → PDecl → PDecls
decl_behind no_decls d = decls d no_decls
decl_behind (decls x ds) d = decls x (decl_behind ds d)

-- how values are made into one

abbrev pub labelled : Named → Make
labelled n (stmt s ∷ vs) = stmt (trees.label n s) ∷ vs
labelled n vs = vs

abbrev pub assigned : Named → Make
assigned n (one e ∷ vs) = stmt (trees.assign (subscripted n none) e) ∷ vs
assigned n vs = vs

abbrev pub assigned_element : Named → Make
assigned_element n (one e ∷ many es ∷ vs) = stmt (trees.assign (subscripted n es) e) ∷ vs
assigned_element n vs = vs

abbrev pub calling : Named → Make
calling n (many es ∷ vs) = stmt (trees.call_of (called n es)) ∷ vs
calling n vs = vs

abbrev pub going : Make
going (name_is n ∷ vs) = stmt (trees.go_to n) ∷ vs
going vs = vs

abbrev pub compound : Spot → Make
compound spot (list ss ∷ declared ds ∷ vs) = stmt (trees.block (trees.body spot ds ss)) ∷ vs
compound spot vs = vs

abbrev pub one_armed : Make
one_armed (stmt s ∷ one c ∷ vs) = stmt (trees.if_then c s) ∷ vs
one_armed vs = vs

abbrev pub two_armed : Make
two_armed (stmt b ∷ stmt a ∷ one c ∷ vs) = stmt (trees.if_else c a b) ∷ vs
two_armed vs = vs

abbrev pub looping : Make
looping (stmt s ∷ one c ∷ vs) = stmt (trees.while c s) ∷ vs
looping vs = vs

abbrev pub repeating : Make
repeating (one c ∷ stmt s ∷ vs) = stmt (trees.until s c) ∷ vs
repeating vs = vs

abbrev pub counting : Make
counting (stmt s ∷ one c ∷ one b ∷ one a ∷ name_is n ∷ vs) = stmt (trees.for n a b c s) ∷ vs
counting vs = vs

abbrev pub so_often : Make
so_often (stmt s ∷ one c ∷ vs) = stmt (trees.thru c s) ∷ vs
so_often vs = vs

abbrev pub choosing : Make
choosing (list ss ∷ one c ∷ vs) = stmt (trees.case c ss) ∷ vs
choosing vs = vs

abbrev pub processing : Make
processing (task t ∷ many es ∷ name_is n ∷ vs) = stmt (trees.process (called n es) t) ∷ vs
processing vs = vs

abbrev pub with_task : Make
with_task (name_is n ∷ vs) = task (Some n) ∷ vs
with_task vs = vs

abbrev pub acting : EventAct → Make
acting act (event_named e ∷ vs) = stmt (trees.event act e) ∷ vs
acting act vs = vs

abbrev pub writing : Make
writing (many es ∷ phrases ps ∷ place spot ∷ name_is n ∷ vs) = stmt (trees.write n spot ps es) ∷ vs
writing vs = vs

abbrev pub phrase_added : PhraseText → Make
phrase_added p (phrases ps ∷ vs) = phrases (ps ++ p ∷ []) ∷ vs
phrase_added p vs = vs

abbrev pub stmt_added : Make
stmt_added (stmt s ∷ list ss ∷ vs) = list (stmt_behind ss s) ∷ vs
stmt_added vs = vs

-- a declaration of names, so made of them
abbrev pub names_declared : (List Named → PDecl) → Make
names_declared f (names ns ∷ declared ds ∷ vs) = declared (decl_behind ds (f ns)) ∷ vs
names_declared f vs = vs

abbrev pub pair_added : Make
pair_added (one e ∷ low l ∷ pairs ps ∷ vs) = pairs (ps ++ record { low = l; high = e } ∷ []) ∷ vs
pair_added vs = vs

abbrev pub rows_declared : Kind → Make
rows_declared kind (pairs ps ∷ names ns ∷ declared ds ∷ vs) = declared (decl_behind ds (trees.arrays kind ns ps)) ∷ vs
rows_declared kind vs = vs

abbrev pub announced : Make
announced (heading h ∷ declared ds ∷ vs) = declared (decl_behind ds (trees.forward h)) ∷ vs
announced vs = vs

abbrev pub with_body : Make
with_body (stmt s ∷ heading h ∷ declared ds ∷ vs) = declared (decl_behind ds (trees.procedure h s)) ∷ vs
with_body vs = vs

abbrev pub programmed : Spot → Make
programmed spot (list ss ∷ declared ds ∷ vs) = whole_program (trees.program (trees.body spot ds ss)) ∷ vs
programmed spot vs = vs

-- expressions that stand in no other: expr { "," expr }
abbrev pub wholes_in : List Due
wholes_in = make (value_put (many none)) ∷ whole 0 ∷ make list_made ∷ wholes_more ∷ []

abbrev pub turn_wholes_more : TokenKind → Turn
turn_wholes_more k = either (is_symbol symbols.Comma k) (takes plain (whole 0 ∷ make list_made ∷ wholes_more ∷ [])) skips

abbrev pub turn_actuals_part : TokenKind → Turn
turn_actuals_part k = either (is_symbol symbols.OpenRound k) (takes plain (wholes_in ++ symbol symbols.CloseRound ∷ [])) (makes (value_put (many none)))

abbrev pub turn_items_part : TokenKind → Turn
turn_items_part k = either (is_symbol symbols.Comma k) (takes plain wholes_in) (makes (value_put (many none)))

-- pair [ "," pair ]
abbrev pub pair_in : List Due
pair_in = literal ∷ symbol symbols.Colon ∷ whole 0 ∷ make pair_added ∷ []

abbrev pub turn_pairs_more : TokenKind → Turn
turn_pairs_more k = either (is_symbol symbols.Comma k) (takes plain pair_in) skips

-- segment { "," segment }
abbrev pub segment_in : Kind → List Due
segment_in kind = names_in_list ++ symbol symbols.OpenSquare ∷ make (value_put (pairs [])) ∷ pair_in ++ pairs_more ∷ symbol symbols.CloseSquare
    ∷ make (rows_declared kind) ∷ segments_more kind ∷ []

abbrev pub turn_segments_more : Kind → TokenKind → Turn
turn_segments_more kind k = either (is_symbol symbols.Comma k) (takes plain (segment_in kind)) skips

abbrev pub turn_task_part : TokenKind → Turn
turn_task_part k = either (is_symbol symbols.OpenSquare k) (takes plain (named ∷ make with_task ∷ symbol symbols.CloseSquare ∷ [])) (makes (value_put (task None)))

abbrev pub turn_to_part : TokenKind → Turn
turn_to_part k = either (is_word reserved.To k) (takes plain []) skips

abbrev pub turn_angle : Spot → TokenKind → Turn
turn_angle spot k = either (is_symbol symbols.Less k) (takes plain (make (value_put (place spot)) ∷ [])) refuses

-- phrase { "," phrase }
abbrev pub turn_phrase : TokenKind → Turn
turn_phrase k = optional (phrase_of k) (λ p. make (phrase_added p) ∷ []) refuses

abbrev pub turn_phrases_more : TokenKind → Turn
turn_phrases_more k = either (is_symbol symbols.Comma k) (takes plain (phrase ∷ phrases_more ∷ [])) skips

-- statement { ";" statement } with END after it, made into one so
abbrev pub stmts_in : ℕ → Make → List Due
stmts_in d m = make (value_put (list no_stmts)) ∷ statement d ∷ make stmt_added ∷ stmts_more d ∷ word reserved.End ∷ make m ∷ []

-- body and END, made into one so
abbrev pub body_in : ℕ → Make → List Due
body_in d m = make (value_put (declared no_decls)) ∷ declarations d ∷ stmts_in d m

-- the file and what is written to it
abbrev pub write_due : List Due
write_due = symbol symbols.OpenRound ∷ named ∷ symbol symbols.Comma ∷ angle ∷ make (value_put (phrases [])) ∷ phrase ∷ phrases_more
    ∷ symbol symbols.Greater ∷ items_part ∷ symbol symbols.CloseRound ∷ make writing ∷ []

-- the turn of a statement, by its first token

abbrev pub turn_word : ℕ → Spot → TokenKind → Turn → Turn
turn_word d spot (kinds.Word reserved.Begin) otherwise = takes (nests d) (body_in (d + 1) (compound spot))
turn_word d spot (kinds.Word reserved.If) otherwise = takes (nests d) (whole 0 ∷ word reserved.Then ∷ statement (d + 1) ∷ else_part (d + 1) ∷ [])
turn_word d spot (kinds.Word reserved.While) otherwise = takes (nests d) (whole 0 ∷ word reserved.Do ∷ statement (d + 1) ∷ make looping ∷ [])
turn_word d spot (kinds.Word reserved.Do) otherwise = takes (nests d) (statement (d + 1) ∷ word reserved.Until ∷ whole 0 ∷ make repeating ∷ [])
turn_word d spot (kinds.Word reserved.For) otherwise = takes (nests d) (named ∷ symbol symbols.Becomes ∷ whole 0 ∷ word reserved.Step ∷ whole 0
    ∷ word reserved.Until ∷ whole 0 ∷ word reserved.Do ∷ statement (d + 1) ∷ make counting ∷ [])
turn_word d spot (kinds.Word reserved.Thru) otherwise = takes (nests d) (whole 0 ∷ word reserved.Do ∷ statement (d + 1) ∷ make so_often ∷ [])
turn_word d spot (kinds.Word reserved.Case) otherwise = takes (nests d) (whole 0 ∷ word reserved.Of ∷ word reserved.Begin ∷ stmts_in (d + 1) choosing)
turn_word d spot (kinds.Word reserved.Go) otherwise = takes plain (to_part ∷ named ∷ make going ∷ [])
turn_word d spot (kinds.Word reserved.Process) otherwise = takes plain (named ∷ actuals_part ∷ task_part ∷ make processing ∷ [])
turn_word d spot (kinds.Word reserved.Write) otherwise = takes plain write_due
turn_word d spot k otherwise = otherwise

-- a statement that is not empty, or what stands in its place
abbrev pub turn_start : ℕ → Spot → TokenKind → Turn → Turn
turn_start d spot (kinds.Name n) otherwise = takes plain (behind_start (record { name = n; spot = spot }) d ∷ [])
turn_start d spot k otherwise =
    optional (act_of k) (λ act. symbol symbols.OpenRound ∷ event ∷ symbol symbols.CloseRound ∷ make (acting act) ∷ []) (turn_word d spot k otherwise)

abbrev pub turn_statement : ℕ → Spot → TokenKind → Turn
turn_statement d spot k = turn_start d spot k (makes (value_put (stmt trees.empty)))

-- after the name n: ":" statement | [ subscripts ] ":=" expr | [ actuals ]
abbrev pub turn_behind_start : Named → ℕ → TokenKind → Turn
turn_behind_start n d (kinds.Symbol symbols.Colon) = takes (label d n.spot) (statement (d + 1) ∷ make (labelled n) ∷ [])
turn_behind_start n d (kinds.Symbol symbols.Becomes) = takes plain (whole 0 ∷ make (assigned n) ∷ [])
turn_behind_start n d (kinds.Symbol symbols.OpenSquare) =
    takes plain (wholes_in ++ symbol symbols.CloseSquare ∷ symbol symbols.Becomes ∷ whole 0 ∷ make (assigned_element n) ∷ [])
turn_behind_start n d (kinds.Symbol symbols.OpenRound) = takes plain (wholes_in ++ symbol symbols.CloseRound ∷ make (calling n) ∷ [])
turn_behind_start n d k = makes (value_put (stmt (trees.call_of (called n none))))

abbrev pub turn_else_part : ℕ → TokenKind → Turn
turn_else_part d k = either (is_word reserved.Else k) (takes plain (statement d ∷ make two_armed ∷ [])) (makes one_armed)

abbrev pub turn_stmts_more : ℕ → TokenKind → Turn
turn_stmts_more d k = either (is_symbol symbols.Semicolon k) (takes plain (statement d ∷ make stmt_added ∷ stmts_more d ∷ [])) skips

-- a declaration of names with its semicolon
abbrev pub names_by : (List Named → PDecl) → List Due
names_by f = names_in_list ++ make (names_declared f) ∷ symbol symbols.Semicolon ∷ []

-- a procedure after its word
abbrev pub procedure_in : Option Kind → ℕ → List Due
procedure_in kind d = named ∷ behind_procedure kind ∷ procedure_body d ∷ []

-- after its type: names ";" | ARRAY segment { "," segment } ";" | PROCEDURE ..
abbrev pub turn_typed : Kind → ℕ → Spot → TokenKind → Turn
turn_typed kind d spot (kinds.Name n) = takes plain (make (value_put (names (record { name = n; spot = spot } ∷ []))) ∷ names_more
    ∷ make (names_declared (trees.simple kind)) ∷ symbol symbols.Semicolon ∷ [])
turn_typed kind d spot (kinds.Word reserved.Array) = takes plain (segment_in kind ++ symbol symbols.Semicolon ∷ [])
turn_typed kind d spot (kinds.Word reserved.Procedure) = takes plain (procedure_in (Some kind) d)
turn_typed kind d spot k = refuses

abbrev pub turn_declaration : ℕ → TokenKind → Turn → Turn
turn_declaration d (kinds.Word reserved.File) otherwise = takes plain (files_in ++ make (names_declared trees.files) ∷ symbol symbols.Semicolon ∷ [])
turn_declaration d (kinds.Word reserved.Event) otherwise = takes plain (names_by trees.events)
turn_declaration d (kinds.Word reserved.Task) otherwise = takes plain (names_by trees.tasks)
turn_declaration d (kinds.Word reserved.Label) otherwise = takes plain (names_by trees.labels)
turn_declaration d (kinds.Word reserved.Array) otherwise = takes plain (segment_in types.Number ++ symbol symbols.Semicolon ∷ [])
turn_declaration d (kinds.Word reserved.Procedure) otherwise = takes plain (procedure_in None d)
turn_declaration d k otherwise = optional (type_of k) (λ kind. typed kind d ∷ []) otherwise

-- { declaration ";" }
abbrev pub turn_declarations : ℕ → TokenKind → Turn
turn_declarations d k = followed (turn_declaration d k skips) (declarations d ∷ [])

-- a body that begins so opens a level before that of its first token, so it is the greater number that counts
abbrev pub turn_entered : ℕ → Turn → Turn
turn_entered d (takes plain ds) = takes (nests d) (ds ++ make with_body ∷ symbol symbols.Semicolon ∷ [])
turn_entered d (takes l ds) = takes l (ds ++ make with_body ∷ symbol symbols.Semicolon ∷ [])
turn_entered d x = x

-- ( FORWARD | statement ) ";"
abbrev pub turn_procedure_body : ℕ → Spot → TokenKind → Turn
turn_procedure_body d spot (kinds.Word reserved.Forward) = takes plain (make announced ∷ symbol symbols.Semicolon ∷ [])
turn_procedure_body d spot (kinds.Symbol symbols.Semicolon) = takes (nests d) (make (value_put (stmt trees.empty)) ∷ make with_body ∷ [])
turn_procedure_body d spot k = turn_entered d (turn_start (d + 1) spot k refuses)

abbrev pub turn_program : Spot → TokenKind → Turn
turn_program spot k = either (is_word reserved.Begin k)
    (takes (nests 0) (make (value_put (declared no_decls)) ∷ declarations 1 ∷ make (value_put (list no_stmts)) ∷ statement 1 ∷ make stmt_added ∷ stmts_more 1
    ∷ word reserved.End ∷ symbol symbols.Period ∷ make (programmed spot) ∷ [])) refuses
