-- The grammar of statements and declarations. `IsStmt free d from s rest`: the tokens `from` begin with those of the statement s,
-- where d levels are open, and `rest` is what follows; so for all that is defined here. There is one case for each form of a
-- production. The limits are kept by all tokens but the last `free` ones. Each expression here stands in no other.
use Rattle.std.specs.Prelude.{◌≡◌, ◌+◌, ℕ, ℤ, Bool, true, false, List, [], ◌∷◌, Option, Some, None}
use Rattle.algol_tree.specs.declared.token.Spot.{Spot}
use Rattle.algol_tree.specs.declared.token.Token.{Token}
use Rattle.algol_tree.specs.declared.token.TokenKind.{TokenKind}
use Rattle.algol_tree.specs.declared.token.TokenKind.TheVariants as kinds
use Rattle.algol_tree.specs.declared.token.Reserved.TheVariants as reserved
use Rattle.algol_tree.specs.declared.token.Symbol.TheVariants as symbols
use Rattle.algol_tree.specs.declared.tree.Named.{Named}
use Rattle.algol_tree.specs.declared.tree.Kind.{Kind}
use Rattle.b67_deeds.specs.declared.EventAct.{EventAct}
use Rattle.b67_deeds.specs.declared.EventAct.TheVariants as acts
use Rattle.algol_tree.specs.declared.tree.EventName.{EventName}
use Rattle.algol_tree.specs.declared.tree.PhraseText.{PhraseText}
use Rattle.algol_tree.specs.declared.tree.PhraseText.TheVariants as phrases
use Rattle.algol_tree.specs.declared.tree.Heading.{Heading}
use Rattle.algol_tree.specs.Plain.{PExpr, subscripted, called, PExprs, none, more, PPair, PStmt, empty, label, assign, call_of, go_to, block, if_then, if_else, while, until, for, thru, case, process, event, write, PStmts, no_stmts, stmts, simple, files, events, tasks, labels, arrays, forward, procedure, PDecls, no_decls, decls, PBody, body}
use Rattle.algol_tree.specs.Tokens.{IsWord, IsSymbol, IsName}
use Rattle.algol_tree.specs.Expressions.{TokenOpens, IsWholeExpression, IsEvent}
use Rattle.algol_tree.specs.Headings.{type_of, IsTyped, elements_of, IsNames, IsFiles, IsLiteral, IsHeading}

-- expr { "," expr }
pub data IsWholes (free : ℕ) : List Token → PExprs → List Token → Type 0 where
  one : (e : PExpr) (from rest : List Token) → IsWholeExpression free 0 from e rest → IsWholes free from (more e none) rest
  comma : (t : Token) (e : PExpr) (es : PExprs) (from after rest : List Token) →
      IsWholeExpression free 0 from e (t ∷ after) → IsSymbol symbols.Comma t → IsWholes free after es rest → IsWholes free from (more e es) rest

-- [ "(" expr { "," expr } ")" ], after a name
pub data IsActuals (free : ℕ) : List Token → PExprs → List Token → Type 0 where
  nothing : (rest : List Token) → IsActuals free rest none rest
  actuals : (t u : Token) (es : PExprs) (from rest : List Token) →
      IsSymbol symbols.OpenRound t → IsWholes free from es (u ∷ rest) → IsSymbol symbols.CloseRound u → IsActuals free (t ∷ from) es rest

-- [ "[" expr { "," expr } "]" ], after a name
pub data IsSubscripts (free : ℕ) : List Token → PExprs → List Token → Type 0 where
  nothing : (rest : List Token) → IsSubscripts free rest none rest
  subscripts : (t u : Token) (es : PExprs) (from rest : List Token) →
      IsSymbol symbols.OpenSquare t → IsWholes free from es (u ∷ rest) → IsSymbol symbols.CloseSquare u → IsSubscripts free (t ∷ from) es rest

-- [ "[" name "]" ]
pub data IsTaskPart : List Token → Option Named → List Token → Type 0 where
  nothing : (rest : List Token) → IsTaskPart rest None rest
  task : (t u v : Token) (n : Named) (rest : List Token) →
      IsSymbol symbols.OpenSquare t → IsName n u → IsSymbol symbols.CloseSquare v → IsTaskPart (t ∷ u ∷ v ∷ rest) (Some n) rest

-- [ TO ]
pub data IsTo : List Token → List Token → Type 0 where
  nothing : (rest : List Token) → IsTo rest rest
  to : (t : Token) (rest : List Token) → IsWord reserved.To t → IsTo (t ∷ rest) rest

-- CAUSE | RESET | WAIT | PROCURE | LIBERATE
abbrev pub act_of : TokenKind → Option EventAct
act_of (kinds.Word reserved.Cause) = Some acts.Cause
act_of (kinds.Word reserved.CauseAndReset) = Some acts.CauseAndReset
act_of (kinds.Word reserved.Reset) = Some acts.Reset
act_of (kinds.Word reserved.Wait) = Some acts.Wait
act_of (kinds.Word reserved.Procure) = Some acts.Procure
act_of (kinds.Word reserved.Liberate) = Some acts.Liberate
act_of k = None

-- phrase = string | name
abbrev pub phrase_of : TokenKind → Option PhraseText
phrase_of (kinds.Text text) = Some (phrases.Text text)
phrase_of (kinds.Name name) = Some (phrases.Word name)
phrase_of k = None

-- phrase { "," phrase }
pub data IsPhrases : List Token → List PhraseText → List Token → Type 0 where
  last : (t : Token) (p : PhraseText) (rest : List Token) → phrase_of t.kind ≡ Some p → IsPhrases (t ∷ rest) (p ∷ []) rest
  comma : (t u : Token) (p : PhraseText) (ps : List PhraseText) (from rest : List Token) →
      phrase_of t.kind ≡ Some p → IsSymbol symbols.Comma u → IsPhrases from ps rest → IsPhrases (t ∷ u ∷ from) (p ∷ ps) rest

-- [ "," expr { "," expr } ]
pub data IsItems (free : ℕ) : List Token → PExprs → List Token → Type 0 where
  nothing : (rest : List Token) → IsItems free rest none rest
  items : (t : Token) (es : PExprs) (from rest : List Token) → IsSymbol symbols.Comma t → IsWholes free from es rest → IsItems free (t ∷ from) es rest

-- pair = literal ":" expr
pub data IsPair (free : ℕ) : List Token → PPair → List Token → Type 0 where
  pair : (t : Token) (low : ℤ) (high : PExpr) (from after rest : List Token) →
      IsLiteral from low (t ∷ after) → IsSymbol symbols.Colon t → IsWholeExpression free 0 after high rest → IsPair free from (record { low = low; high = high }) rest

-- pair [ "," pair ]
pub data IsPairs (free : ℕ) : List Token → List PPair → List Token → Type 0 where
  one : (p : PPair) (from rest : List Token) → IsPair free from p rest → IsPairs free from (p ∷ []) rest
  two : (t : Token) (p q : PPair) (from after rest : List Token) →
      IsPair free from p (t ∷ after) → IsSymbol symbols.Comma t → IsPair free after q rest → IsPairs free from (p ∷ q ∷ []) rest

-- segment { "," segment }, each a declaration of its own; segment = names "[" pair [ "," pair ] "]"
pub data IsSegments (free : ℕ) : Kind → List Token → PDecls → List Token → Type 0 where
  last : (kind : Kind) (u v : Token) (ns : List Named) (ps : List PPair) (from mid rest : List Token) →
      IsNames from ns (u ∷ mid) → IsSymbol symbols.OpenSquare u → IsPairs free mid ps (v ∷ rest) → IsSymbol symbols.CloseSquare v →
      IsSegments free kind from (decls (arrays kind ns ps) no_decls) rest
  comma : (kind : Kind) (u v w : Token) (ns : List Named) (ps : List PPair) (ds : PDecls) (from mid after rest : List Token) →
      IsNames from ns (u ∷ mid) → IsSymbol symbols.OpenSquare u → IsPairs free mid ps (v ∷ w ∷ after) → IsSymbol symbols.CloseSquare v →
      IsSymbol symbols.Comma w → IsSegments free kind after ds rest → IsSegments free kind from (decls (arrays kind ns ps) ds) rest

-- The statement ends in an IF without an ELSE, so that an ELSE after it would belong to that IF.
abbrev pub open_if : PStmt → Bool
open_if (if_then c s) = true
open_if (if_else c a b) = open_if b
open_if (label n s) = open_if s
open_if (while c s) = open_if s
open_if (for v a s l b) = open_if b
open_if (thru e s) = open_if s
open_if s = false

-- these declarations, and those after them
abbrev pub decls_and : PDecls → PDecls → PDecls
decls_and no_decls es = es
decls_and (decls d ds) es = decls d (decls_and ds es)

mutual
  pub data IsStmt (free : ℕ) : ℕ → List Token → PStmt → List Token → Type 0 where
    -- (empty)
    nothing : (d : ℕ) (rest : List Token) → IsStmt free d rest empty rest
    -- name ":" statement; the name opens a level
    labelled : (t u : Token) (n : Named) (d : ℕ) (s : PStmt) (from rest : List Token) →
        IsName n t → IsSymbol symbols.Colon u → TokenOpens free d (t ∷ u ∷ from) → IsStmt free (d + 1) from s rest → IsStmt free d (t ∷ u ∷ from) (label n s) rest
    -- variable ":=" expr
    assignment : (t u : Token) (n : Named) (es : PExprs) (e : PExpr) (d : ℕ) (from after rest : List Token) →
        IsName n t → IsSubscripts free from es (u ∷ after) → IsSymbol symbols.Becomes u → IsWholeExpression free 0 after e rest →
        IsStmt free d (t ∷ from) (assign (subscripted n es) e) rest
    -- name [ "(" expr { "," expr } ")" ]
    calling : (t : Token) (n : Named) (es : PExprs) (d : ℕ) (from rest : List Token) →
        IsName n t → IsActuals free from es rest → IsStmt free d (t ∷ from) (call_of (called n es)) rest
    -- GO [ TO ] name
    going : (t u : Token) (n : Named) (d : ℕ) (from rest : List Token) →
        IsWord reserved.Go t → IsTo from (u ∷ rest) → IsName n u → IsStmt free d (t ∷ from) (go_to n) rest
    -- BEGIN body END
    compound : (t u : Token) (d : ℕ) (b : PBody) (from rest : List Token) →
        IsWord reserved.Begin t → TokenOpens free d (t ∷ from) → IsBody free (d + 1) t.spot from b (u ∷ rest) → IsWord reserved.End u →
        IsStmt free d (t ∷ from) (block b) rest
    -- IF expr THEN statement; an ELSE after it would belong to it
    one_armed : (t u : Token) (c : PExpr) (d : ℕ) (s : PStmt) (from mid rest : List Token) →
        IsWord reserved.If t → TokenOpens free d (t ∷ from) → IsWholeExpression free 0 from c (u ∷ mid) → IsWord reserved.Then u → IsStmt free (d + 1) mid s rest →
        IsStmt free d (t ∷ from) (if_then c s) rest
    -- IF expr THEN statement ELSE statement; the ELSE belongs to no IF within the first statement
    two_armed : (t u v : Token) (c : PExpr) (d : ℕ) (a b : PStmt) (from mid after rest : List Token) →
        IsWord reserved.If t → TokenOpens free d (t ∷ from) → IsWholeExpression free 0 from c (u ∷ mid) → IsWord reserved.Then u → IsStmt free (d + 1) mid a (v ∷ after) →
        open_if a ≡ false → IsWord reserved.Else v → IsStmt free (d + 1) after b rest → IsStmt free d (t ∷ from) (if_else c a b) rest
    -- WHILE expr DO statement
    looping : (t u : Token) (c : PExpr) (d : ℕ) (s : PStmt) (from mid rest : List Token) →
        IsWord reserved.While t → TokenOpens free d (t ∷ from) → IsWholeExpression free 0 from c (u ∷ mid) → IsWord reserved.Do u → IsStmt free (d + 1) mid s rest →
        IsStmt free d (t ∷ from) (while c s) rest
    -- DO statement UNTIL expr
    repeating : (t u : Token) (c : PExpr) (d : ℕ) (s : PStmt) (from mid rest : List Token) →
        IsWord reserved.Do t → TokenOpens free d (t ∷ from) → IsStmt free (d + 1) from s (u ∷ mid) → IsWord reserved.Until u → IsWholeExpression free 0 mid c rest →
        IsStmt free d (t ∷ from) (until s c) rest
    -- FOR name ":=" expr STEP expr UNTIL expr DO statement
    counting : (t u v w x y : Token) (n : Named) (a b c : PExpr) (d : ℕ) (s : PStmt) (from step limit mid rest : List Token) →
        IsWord reserved.For t → TokenOpens free d (t ∷ u ∷ v ∷ from) → IsName n u → IsSymbol symbols.Becomes v → IsWholeExpression free 0 from a (w ∷ step) →
        IsWord reserved.Step w → IsWholeExpression free 0 step b (x ∷ limit) → IsWord reserved.Until x → IsWholeExpression free 0 limit c (y ∷ mid) →
        IsWord reserved.Do y → IsStmt free (d + 1) mid s rest → IsStmt free d (t ∷ u ∷ v ∷ from) (for n a b c s) rest
    -- THRU expr DO statement
    so_often : (t u : Token) (c : PExpr) (d : ℕ) (s : PStmt) (from mid rest : List Token) →
        IsWord reserved.Thru t → TokenOpens free d (t ∷ from) → IsWholeExpression free 0 from c (u ∷ mid) → IsWord reserved.Do u → IsStmt free (d + 1) mid s rest →
        IsStmt free d (t ∷ from) (thru c s) rest
    -- CASE expr OF BEGIN statement { ";" statement } END
    choosing : (t u v w : Token) (c : PExpr) (d : ℕ) (ss : PStmts) (from mid rest : List Token) →
        IsWord reserved.Case t → TokenOpens free d (t ∷ from) → IsWholeExpression free 0 from c (u ∷ v ∷ mid) → IsWord reserved.Of u → IsWord reserved.Begin v →
        IsStmts free (d + 1) mid ss (w ∷ rest) → IsWord reserved.End w → IsStmt free d (t ∷ from) (case c ss) rest
    -- PROCESS call [ "[" name "]" ]
    processing : (t u : Token) (n : Named) (es : PExprs) (task : Option Named) (d : ℕ) (from mid rest : List Token) →
        IsWord reserved.Process t → IsName n u → IsActuals free from es mid → IsTaskPart mid task rest →
        IsStmt free d (t ∷ u ∷ from) (process (called n es) task) rest
    -- ( CAUSE | RESET | WAIT | PROCURE | LIBERATE ) "(" event ")"
    acting : (t u v : Token) (act : EventAct) (e : EventName) (d : ℕ) (from rest : List Token) →
        act_of t.kind ≡ Some act → IsSymbol symbols.OpenRound u → IsEvent from e (v ∷ rest) → IsSymbol symbols.CloseRound v →
        IsStmt free d (t ∷ u ∷ from) (event act e) rest
    -- WRITE "(" name "," "<" phrase { "," phrase } ">" [ "," expr { "," expr } ] ")"
    writing : (t u v w x y z : Token) (n : Named) (ps : List PhraseText) (es : PExprs) (d : ℕ) (from mid rest : List Token) →
        IsWord reserved.Write t → IsSymbol symbols.OpenRound u → IsName n v → IsSymbol symbols.Comma w → IsSymbol symbols.Less x →
        IsPhrases from ps (y ∷ mid) → IsSymbol symbols.Greater y → IsItems free mid es (z ∷ rest) → IsSymbol symbols.CloseRound z →
        IsStmt free d (t ∷ u ∷ v ∷ w ∷ x ∷ from) (write n x.spot ps es) rest

  -- statement { ";" statement }
  pub data IsStmts (free : ℕ) : ℕ → List Token → PStmts → List Token → Type 0 where
    last : (d : ℕ) (s : PStmt) (from rest : List Token) → IsStmt free d from s rest → IsStmts free d from (stmts s no_stmts) rest
    semicolon : (t : Token) (d : ℕ) (s : PStmt) (ss : PStmts) (from mid rest : List Token) →
        IsStmt free d from s (t ∷ mid) → IsSymbol symbols.Semicolon t → IsStmts free d mid ss rest → IsStmts free d from (stmts s ss) rest

  -- one declaration of the text, which may be several of the tree
  pub data IsDecl (free : ℕ) : ℕ → List Token → PDecls → List Token → Type 0 where
    -- type names
    values : (t : Token) (kind : Kind) (ns : List Named) (d : ℕ) (from rest : List Token) →
        type_of t.kind ≡ Some kind → IsNames from ns rest → IsDecl free d (t ∷ from) (decls (simple kind ns) no_decls) rest
    -- FILE file { "," file }
    printers : (t : Token) (ns : List Named) (d : ℕ) (from rest : List Token) →
        IsWord reserved.File t → IsFiles from ns rest → IsDecl free d (t ∷ from) (decls (files ns) no_decls) rest
    -- EVENT names
    happenings : (t : Token) (ns : List Named) (d : ℕ) (from rest : List Token) →
        IsWord reserved.Event t → IsNames from ns rest → IsDecl free d (t ∷ from) (decls (events ns) no_decls) rest
    -- TASK names
    workers : (t : Token) (ns : List Named) (d : ℕ) (from rest : List Token) →
        IsWord reserved.Task t → IsNames from ns rest → IsDecl free d (t ∷ from) (decls (tasks ns) no_decls) rest
    -- LABEL names
    places : (t : Token) (ns : List Named) (d : ℕ) (from rest : List Token) →
        IsWord reserved.Label t → IsNames from ns rest → IsDecl free d (t ∷ from) (decls (labels ns) no_decls) rest
    -- [ type ] ARRAY segment { "," segment }
    rows : (t : Token) (kind : Option Kind) (ds : PDecls) (d : ℕ) (from mid rest : List Token) →
        IsTyped from kind (t ∷ mid) → IsWord reserved.Array t → IsSegments free (elements_of kind) mid ds rest → IsDecl free d from ds rest
    -- heading FORWARD
    announced : (t : Token) (h : Heading) (d : ℕ) (from rest : List Token) →
        IsHeading from h (t ∷ rest) → IsWord reserved.Forward t → IsDecl free d from (decls (forward h) no_decls) rest
    -- heading statement; the body opens a level at the first token after the heading, before what that token opens itself
    with_body : (h : Heading) (s : PStmt) (d : ℕ) (from mid rest : List Token) →
        IsHeading from h mid → TokenOpens free d mid → IsStmt free (d + 1) mid s rest → IsDecl free d from (decls (procedure h s) no_decls) rest

  -- { declaration ";" }
  pub data IsDecls (free : ℕ) : ℕ → List Token → PDecls → List Token → Type 0 where
    no_more : (d : ℕ) (rest : List Token) → IsDecls free d rest no_decls rest
    another : (t : Token) (d : ℕ) (ds es : PDecls) (from mid rest : List Token) →
        IsDecl free d from ds (t ∷ mid) → IsSymbol symbols.Semicolon t → IsDecls free d mid es rest → IsDecls free d from (decls_and ds es) rest

  -- body = { declaration ";" } statement { ";" statement }, after a BEGIN at that spot
  pub data IsBody (free : ℕ) : ℕ → Spot → List Token → PBody → List Token → Type 0 where
    declared : (d : ℕ) (spot : Spot) (ds : PDecls) (ss : PStmts) (from mid rest : List Token) →
        IsDecls free d from ds mid → IsStmts free d mid ss rest → IsBody free d spot from (body spot ds ss) rest
