-- What is due of a heading, a statement or a program, said of the grammar.
use Rattle.std.proofs.Common.{◌≡◌, ℕ, true, List, [], ◌∷◌, ◌++◌, Some}
use Rattle.algol_tree.specs.declared.token.Spot.{Spot}
use Rattle.algol_tree.specs.declared.token.Token.{Token}
use Rattle.algol_tree.specs.declared.token.TokenKind.{TokenKind}
use Rattle.algol_tree.specs.declared.token.TokenKind.TheVariants as kinds
use Rattle.algol_tree.specs.declared.token.Reserved.TheVariants as reserved
use Rattle.algol_tree.specs.declared.token.Symbol.TheVariants as symbols
use Rattle.algol_tree.specs.declared.tree.Named.{Named}
use Rattle.algol_tree.specs.declared.tree.Kind.{Kind}
use Rattle.algol_tree.specs.declared.tree.PhraseText.{PhraseText}
use Rattle.algol_tree.specs.Plain as trees
use Rattle.algol_tree.specs.Plain.{PExpr, PStmt, PDecl, PDecls, more, stmts, decls}
use Rattle.algol_tree.specs.Tokens.{IsWord, IsSymbol, IsName, is_word}
use Rattle.algol_tree.specs.Expressions.{TokenOpens, IsWholeExpression}
use Rattle.algol_tree.specs.Headings.{type_of, IsTyped, IsNames, IsFile, IsFiles, IsLiteral, IsLows, IsSpec, IsSpecs, IsValues, IsHeading}
use Rattle.algol_tree.specs.Statements.{IsWholes, IsActuals, IsItems, IsTaskPart, IsTo, phrase_of, IsPhrases, IsPair, IsPairs, IsSegments, open_if, decls_and, IsStmt, IsStmts, IsDecl, IsDecls}
use Rattle.algol_tree.specs.Programs.{IsProgram}
use Rattle.algol_tree.specs.Due.{Value, one, many, name_is, names, low, lows, pairs, specified, heading, task, place, phrases, stmt, list, declared, whole_program, Due, whole, named, names_more, printer_part, files_more, literal, number_negated, lows_more, values_part, spec, spec_typed, specs_more, behind_procedure, wholes_more, actuals_part, items_part, pairs_more, segments_more, task_part, to_part, angle, phrase, phrases_more, statement, behind_start, else_part, stmts_more, declarations, typed, procedure_body, program, plain, nests, label, Turn, takes}
use Rattle.algol_tree.specs.DueExpr.{all_of}
use Rattle.algol_expr.proofs.Sound as inner
use Rattle.algol_grammar.proofs.Optional.{NotFirst}
use Rattle.algol_grammar.proofs.Complete.{stmts_and}

-- The tokens up to `rest` are those of something, of which the value is put before the others.
pub data Gives {A : Type 0} (P : List Token → A → List Token → Type 0) (value : A → Value) (from : List Token) (vs : List Value) : List Value → List Token → Type 0 where
  gives : (a : A) (rest : List Token) → P from a rest → Gives P value from vs (value a ∷ vs) rest

-- they are those of something that has no value
pub data Passed (P : List Token → List Token → Type 0) (from : List Token) (vs : List Value) : List Value → List Token → Type 0 where
  passed : (rest : List Token) → P from rest → Passed P from vs vs rest

pub data IsOneName : List Token → Named → List Token → Type 0 where
  one_name : (t : Token) (n : Named) (rest : List Token) → IsName n t → IsOneName (t ∷ rest) n rest

pub data IsAngle : List Token → Spot → List Token → Type 0 where
  less : (t : Token) (rest : List Token) → IsSymbol symbols.Less t → IsAngle (t ∷ rest) t.spot rest

pub data IsPhrase : List Token → PhraseText → List Token → Type 0 where
  one_phrase : (t : Token) (p : PhraseText) (rest : List Token) → phrase_of t.kind ≡ Some p → IsPhrase (t ∷ rest) p rest

-- names "[" pair [ "," pair ] "]"
pub data IsSegment (free : ℕ) (kind : Kind) : List Token → PDecl → List Token → Type 0 where
  segment : (u v : Token) (ns : List Named) (ps : List trees.PPair) (from mid rest : List Token) →
      IsNames from ns (u ∷ mid) → IsSymbol symbols.OpenSquare u → IsPairs free mid ps (v ∷ rest) → IsSymbol symbols.CloseSquare v →
      IsSegment free kind from (trees.arrays kind ns ps) rest

-- a statement after which no ELSE stands that would be its own
pub record IsClosed (free d : ℕ) (from : List Token) (s : PStmt) (rest : List Token) : Type 0 where
  pub reads : IsStmt free d from s rest
  pub closed : open_if s ≡ true → NotFirst (is_word reserved.Else) rest

-- a declaration and its semicolon
pub data IsEnded (free d : ℕ) : List Token → PDecls → List Token → Type 0 where
  ended : (u : Token) (ds : PDecls) (from rest : List Token) → IsDecl free d from ds (u ∷ rest) → IsSymbol symbols.Semicolon u → IsEnded free d from ds rest

-- the statement s after THEN, and what stands after it
pub data IsArms (free d : ℕ) (c : PExpr) (s : PStmt) (below : List Value) : List Token → List Value → List Token → Type 0 where
  without : (rest : List Token) → NotFirst (is_word reserved.Else) rest → IsArms free d c s below rest (stmt (trees.if_then c s) ∷ below) rest
  with_else : (v : Token) (b : PStmt) (from rest : List Token) → IsWord reserved.Else v → IsClosed free d from b rest →
      IsArms free d c s below (v ∷ from) (stmt (trees.if_else c s b) ∷ below) rest

-- The same as of an expression: what goes on with something that stands before is said of each such thing.
abbrev pub IsDue : ℕ → Due → List Value → List Token → List Value → List Token → Type 0
IsDue free (whole d) vs from ws rest = Gives (IsWholeExpression free d) one from vs ws rest
IsDue free named vs from ws rest = Gives IsOneName name_is from vs ws rest
IsDue free names_more vs from ws rest = (acc : List Named) (below : List Value) → vs ≡ names acc ∷ below →
    Gives (λ from ns rest. (t : Token) (n : Named) → IsName n t → IsNames (t ∷ from) (n ∷ ns) rest) (λ ns. names (acc ++ ns)) from below ws rest
IsDue free printer_part vs from ws rest = Passed (λ from rest. (t : Token) (n : Named) → IsName n t → IsFile (t ∷ from) n rest) from vs ws rest
IsDue free files_more vs from ws rest = (acc : List Named) (below : List Value) → vs ≡ names acc ∷ below →
    Gives (λ from ns rest. (before : List Token) (n : Named) → IsFile before n from → IsFiles before (n ∷ ns) rest) (λ ns. names (acc ++ ns)) from below ws rest
IsDue free literal vs from ws rest = Gives IsLiteral low from vs ws rest
IsDue free number_negated vs from ws rest = Gives (λ from value rest. (t : Token) → IsSymbol symbols.Minus t → IsLiteral (t ∷ from) value rest) low from vs ws rest
IsDue free lows_more vs from ws rest = (l : _) (below : List Value) → vs ≡ lows (l ∷ []) ∷ below →
    Gives (λ from ls rest. (before : List Token) → IsLiteral before l from → IsLows before ls rest) lows from below ws rest
IsDue free values_part vs from ws rest = Gives IsValues names from vs ws rest
IsDue free spec vs from ws rest = (acc : _) (below : List Value) → vs ≡ specified acc ∷ below → Gives IsSpec (λ s. specified (acc ++ s ∷ [])) from below ws rest
IsDue free (spec_typed kind) vs from ws rest = (acc : _) (below : List Value) → vs ≡ specified acc ∷ below →
    Gives (λ from s rest. (t : Token) → type_of t.kind ≡ Some kind → IsSpec (t ∷ from) s rest) (λ s. specified (acc ++ s ∷ [])) from below ws rest
IsDue free specs_more vs from ws rest = (acc : _) (below : List Value) → vs ≡ specified acc ∷ below →
    Gives (λ from ss rest. (before : List Token) (s : _) → IsSpec before s from → IsSpecs before (s ∷ ss) rest) (λ ss. specified (acc ++ ss)) from below ws rest
IsDue free (behind_procedure kind) vs from ws rest = (n : Named) (below : List Value) → vs ≡ name_is n ∷ below →
    Gives (λ from h rest. (before : List Token) (t u : Token) → IsTyped before kind (t ∷ u ∷ from) → IsWord reserved.Procedure t → IsName n u → IsHeading before h rest)
    heading from below ws rest
IsDue free wholes_more vs from ws rest = (acc : _) (below : List Value) → vs ≡ many acc ∷ below →
    Gives (λ from es rest. (before : List Token) (e : PExpr) → IsWholeExpression free 0 before e from → IsWholes free before (more e es) rest) (λ es. many (all_of acc es)) from below ws rest
IsDue free actuals_part vs from ws rest = Gives (IsActuals free) many from vs ws rest
IsDue free items_part vs from ws rest = Gives (IsItems free) many from vs ws rest
IsDue free pairs_more vs from ws rest = (p : _) (below : List Value) → vs ≡ pairs (p ∷ []) ∷ below →
    Gives (λ from ps rest. (before : List Token) → IsPair free before p from → IsPairs free before ps rest) pairs from below ws rest
IsDue free (segments_more kind) vs from ws rest = (acc : PDecls) (below : List Value) → vs ≡ declared acc ∷ below →
    Gives (λ from ds rest. (before : List Token) (d : PDecl) → IsSegment free kind before d from → IsSegments free kind before (decls d ds) rest)
    (λ ds. declared (decls_and acc ds)) from below ws rest
IsDue free task_part vs from ws rest = Gives IsTaskPart task from vs ws rest
IsDue free to_part vs from ws rest = Passed IsTo from vs ws rest
IsDue free angle vs from ws rest = Gives IsAngle place from vs ws rest
IsDue free phrase vs from ws rest = (acc : List PhraseText) (below : List Value) → vs ≡ phrases acc ∷ below → Gives IsPhrase (λ p. phrases (acc ++ p ∷ [])) from below ws rest
IsDue free phrases_more vs from ws rest = (acc : List PhraseText) (below : List Value) → vs ≡ phrases acc ∷ below →
    Gives (λ from ps rest. (t : Token) (p : PhraseText) → phrase_of t.kind ≡ Some p → IsPhrases (t ∷ from) (p ∷ ps) rest) (λ ps. phrases (acc ++ ps)) from below ws rest
IsDue free (statement d) vs from ws rest = Gives (IsClosed free d) stmt from vs ws rest
IsDue free (behind_start n d) vs from ws rest = Gives (λ from s rest. (t : Token) → IsName n t → IsClosed free d (t ∷ from) s rest) stmt from vs ws rest
IsDue free (else_part d) vs from ws rest = (s : PStmt) (c : PExpr) (below : List Value) → vs ≡ stmt s ∷ one c ∷ below → IsArms free d c s below from ws rest
IsDue free (stmts_more d) vs from ws rest = (acc : _) (below : List Value) → vs ≡ list acc ∷ below →
    Gives (λ from ss rest. (before : List Token) (s : PStmt) → IsStmt free d before s from → IsStmts free d before (stmts s ss) rest) (λ ss. list (stmts_and acc ss)) from below ws rest
IsDue free (declarations d) vs from ws rest = (acc : PDecls) (below : List Value) → vs ≡ declared acc ∷ below →
    Gives (IsDecls free d) (λ ds. declared (decls_and acc ds)) from below ws rest
IsDue free (typed kind d) vs from ws rest = (acc : PDecls) (below : List Value) → vs ≡ declared acc ∷ below →
    Gives (λ from ds rest. (t : Token) → type_of t.kind ≡ Some kind → IsEnded free d (t ∷ from) ds rest) (λ ds. declared (decls_and acc ds)) from below ws rest
IsDue free (procedure_body d) vs from ws rest = (h : _) (acc : PDecls) (below : List Value) → vs ≡ heading h ∷ declared acc ∷ below →
    Gives (λ from ds rest. (before : List Token) → IsHeading before h from → IsEnded free d before ds rest) (λ ds. declared (decls_and acc ds)) from below ws rest
IsDue free program vs from ws rest = Gives (IsProgram free) whole_program from vs ws rest
IsDue free s vs from ws rest = inner.IsDue free s vs from ws rest

pub data IsAll (free : ℕ) : List Due → List Value → List Token → List Value → List Token → Type 0 where
  nil : (vs : List Value) (rest : List Token) → IsAll free [] vs rest vs rest
  cons : (s : Due) (due : List Due) (vs us ws : List Value) (from mid rest : List Token) → IsDue free s vs from us mid → IsAll free due us mid ws rest →
      IsAll free (s ∷ due) vs from ws rest

-- what is due, in two parts
pub record InTwo (free : ℕ) (a b : List Due) (vs : List Value) (from : List Token) (ws : List Value) (rest : List Token) : Type 0 where
  pub us : List Value
  pub mid : List Token
  pub first : IsAll free a vs from us mid
  pub second : IsAll free b us mid ws rest

pub in_two : (free : ℕ) (a b : List Due) (vs : List Value) (from : List Token) (ws : List Value) (rest : List Token) → IsAll free (a ++ b) vs from ws rest →
    InTwo free a b vs from ws rest
in_two free [] b vs from ws rest x = record { us = vs; mid = from; first = nil vs from; second = x }
in_two free (s ∷ a) b vs from ws rest (cons _ _ _ us _ _ mid _ x y) =
    let r = in_two free a b us mid ws rest y in
    record { us = r.us; mid = r.mid; first = cons s a vs us r.us from mid r.mid x r.first; second = r.second }

-- the tokens after t are those that its turn makes due
abbrev pub Taken : ℕ → Turn → Token → List Token → List Value → List Value → List Token → Type 0
Taken free (takes plain ds) t ts vs ws rest = IsAll free ds vs ts ws rest
Taken free (takes (nests d) ds) t ts vs ws rest = TokenOpens free d (t ∷ ts) × IsAll free ds vs ts ws rest
Taken free (takes (label d spot) ds) t ts vs ws rest = ((u : Token) → TokenOpens free d (u ∷ t ∷ ts)) × IsAll free ds vs ts ws rest
Taken free x t ts vs ws rest = ⊥

-- what is left out where the next token is of that kind
abbrev pub IsFirst : List Token → TokenKind → Type 0
IsFirst [] k = k ≡ kinds.End
IsFirst (t ∷ ts) k = t.kind ≡ k
