-- What holds of each text of a program, by the trees that they are.
use Rattle.std.proofs.Common.{◌≡◌, ℕ, zero, suc, ◌+◌, ◌≤◌, List, [], ◌∷◌, ◌++◌, refl, subst, arith}
use Rattle.std.specs.Prelude.{Some, slice_get}
use Rattle.algol_tree.specs.declared.tree.Heading.{Heading}
use Rattle.algol_tree.specs.Blocks.{Begin, of_statement, of_procedure, decls_of, stmts_of, number_at}
use Rattle.algol_tree.specs.Counts.{stmt_tokens, stmts_tokens, decls_tokens}
use Rattle.algol_tree.specs.Plain as tree
use Rattle.algol_tree.specs.Plain.{PStmt, PStmts, PDecl, PDecls, PBody}
use Rattle.b67_ops.specs.declared.TheConstants.{MOST_LEVEL}
use Rattle.algol_tree.specs.Scopes.{Scopes}
use Rattle.b67_templates.specs.Fitting.{Told, StmtFits, StmtsFit}
use Rattle.b67_emit_text.specs.Texts.{Text, begin_level, outer_text, procedure_text, texts_of, texts_in_body, texts_in_decl, texts_in_decls, texts_in_stmts, HaveLevels, HaveLevelsDecl, HaveLevelsDecls, HaveLevelsStmts}

-- ---- each of a list

abbrev pub Each : (Text → Type 0) → List Text → Type 0
Each P [] = Unit {0}
Each P (t ∷ ts) = P t × Each P ts

pub each_left : (P : Text → Type 0) (xs ys : List Text) → Each P (xs ++ ys) → Each P xs
each_left P [] ys h = tt
each_left P (x ∷ xs) ys h = (h.0, each_left P xs ys h.1)

pub each_right : (P : Text → Type 0) (xs ys : List Text) → Each P (xs ++ ys) → Each P ys
each_right P [] ys h = h
each_right P (x ∷ xs) ys h = each_right P xs ys h.1

each_both : (P : Text → Type 0) (xs ys : List Text) → Each P xs → Each P ys → Each P (xs ++ ys)
each_both P [] ys h k = k
each_both P (x ∷ xs) ys h k = (h.0, each_both P xs ys h.1 k)

pub each_from : (P : Text → Type 0) (ts : List Text) → ((k : ℕ) (t : Text) → slice_get ts k ≡ Some t → P t) → Each P ts
each_from P [] h = tt
each_from P (t ∷ ts) h = (h 0 t refl, each_from P ts (λ k u e. h (suc k) u e))

pub same_text : (x y : Text) → Some x ≡ Some y → x ≡ y
same_text x y e = cc

pub each_at : (P : Text → Type 0) (ts : List Text) (k : ℕ) (t : Text) → Each P ts → slice_get ts k ≡ Some t → P t
each_at P [] zero t h e = cc
each_at P [] (suc k) t h e = cc
each_at P (u ∷ us) zero t h e = subst P (same_text u t e) h.0
each_at P (u ∷ us) (suc k) t h e = each_at P us k t h.1 e

-- ---- a claim of the texts within each text

module _ (least : ℕ) (P Q : Text → Type 0) (f : (level : ℕ) (h : Heading) (s : PStmt) → least ≤ level → Each P (texts_of s of_procedure level) → Q (procedure_text level h s)) where
  begin_deep : (begin : Begin) (b : PBody) (level : ℕ) → least ≤ level → least ≤ begin_level begin b level
  begin_deep of_statement (tree.body spot tree.no_decls ss) level le = le
  begin_deep of_statement (tree.body spot (tree.decls d ds) ss) level le = omega (arith, le)
  begin_deep of_procedure b level le = le

  mutual
    pub hold : (s : PStmt) (begin : Begin) (level : ℕ) → least ≤ level → Each P (texts_of s begin level) → Each Q (texts_of s begin level)
    hold tree.empty begin level le h = tt
    hold (tree.label n s) begin level le h = hold s of_statement level le h
    hold (tree.assign v e) begin level le h = tt
    hold (tree.call_of c) begin level le h = tt
    hold (tree.go_to n) begin level le h = tt
    hold (tree.block b) begin level le h = hold_body b (begin_level begin b level) (begin_deep begin b level le) h
    hold (tree.if_then c x) begin level le h = hold x of_statement level le h
    hold (tree.if_else c x y) begin level le h =
        each_both Q (texts_of x of_statement level) (texts_of y of_statement level)
        (hold x of_statement level le (each_left P (texts_of x of_statement level) (texts_of y of_statement level) h))
        (hold y of_statement level le (each_right P (texts_of x of_statement level) (texts_of y of_statement level) h))
    hold (tree.while c b) begin level le h = hold b of_statement level le h
    hold (tree.until b c) begin level le h = hold b of_statement level le h
    hold (tree.for v a s l b) begin level le h = hold b of_statement level le h
    hold (tree.thru e b) begin level le h = hold b of_statement level le h
    hold (tree.case e ss) begin level le h = hold_stmts ss level le h
    hold (tree.process c task) begin level le h = tt
    hold (tree.event act e) begin level le h = tt
    hold (tree.write n spot phrases es) begin level le h = tt

    hold_stmts : (ss : PStmts) (level : ℕ) → least ≤ level → Each P (texts_in_stmts ss level) → Each Q (texts_in_stmts ss level)
    hold_stmts tree.no_stmts level le h = tt
    hold_stmts (tree.stmts s ss) level le h =
        each_both Q (texts_of s of_statement level) (texts_in_stmts ss level)
        (hold s of_statement level le (each_left P (texts_of s of_statement level) (texts_in_stmts ss level) h))
        (hold_stmts ss level le (each_right P (texts_of s of_statement level) (texts_in_stmts ss level) h))

    hold_decls : (ds : PDecls) (level : ℕ) → least ≤ level → Each P (texts_in_decls ds level) → Each Q (texts_in_decls ds level)
    hold_decls tree.no_decls level le h = tt
    hold_decls (tree.decls d ds) level le h =
        each_both Q (texts_in_decl d level) (texts_in_decls ds level) (hold_decl d level le (each_left P (texts_in_decl d level) (texts_in_decls ds level) h))
        (hold_decls ds level le (each_right P (texts_in_decl d level) (texts_in_decls ds level) h))

    hold_decl : (d : PDecl) (level : ℕ) → least ≤ level → Each P (texts_in_decl d level) → Each Q (texts_in_decl d level)
    hold_decl (tree.procedure g s) level le h = (f (level + 1) g s (omega (arith, le)) h.1, hold s of_procedure (level + 1) (omega (arith, le)) h.1)
    hold_decl (tree.simple kind ns) level le h = tt
    hold_decl (tree.files ns) level le h = tt
    hold_decl (tree.events ns) level le h = tt
    hold_decl (tree.tasks ns) level le h = tt
    hold_decl (tree.labels ns) level le h = tt
    hold_decl (tree.arrays kind ns pairs) level le h = tt
    hold_decl (tree.forward g) level le h = tt

    pub hold_body : (b : PBody) (level : ℕ) → least ≤ level → Each P (texts_in_body b level) → Each Q (texts_in_body b level)
    hold_body (tree.body spot ds ss) level le h =
        each_both Q (texts_in_decls ds level) (texts_in_stmts ss level) (hold_decls ds level le (each_left P (texts_in_decls ds level) (texts_in_stmts ss level) h))
        (hold_stmts ss level le (each_right P (texts_in_decls ds level) (texts_in_stmts ss level) h))

-- it holds of the texts that are declared in a text and those in its statements
abbrev pub Within : (Text → Type 0) → ℕ → PDecls → PStmts → Type 0
Within P level ds ss = Each P (texts_in_decls ds level) × Each P (texts_in_stmts ss level)

pub within_procedure : (P : Text → Type 0) (level : ℕ) (s : PStmt) → Each P (texts_of s of_procedure level) → Within P level (decls_of s) (stmts_of s)
within_procedure P level (tree.block (tree.body spot ds ss)) h =
    (each_left P (texts_in_decls ds level) (texts_in_stmts ss level) h, each_right P (texts_in_decls ds level) (texts_in_stmts ss level) h)
within_procedure P level tree.empty h = (tt, tt)
within_procedure P level (tree.label n s) h = (tt, each_both P (texts_of s of_statement level) [] h tt)
within_procedure P level (tree.assign v e) h = (tt, tt)
within_procedure P level (tree.call_of c) h = (tt, tt)
within_procedure P level (tree.go_to n) h = (tt, tt)
within_procedure P level (tree.if_then c x) h = (tt, each_both P (texts_of x of_statement level) [] h tt)
within_procedure P level (tree.if_else c x y) h = (tt, each_both P (texts_of x of_statement level ++ texts_of y of_statement level) [] h tt)
within_procedure P level (tree.while c b) h = (tt, each_both P (texts_of b of_statement level) [] h tt)
within_procedure P level (tree.until b c) h = (tt, each_both P (texts_of b of_statement level) [] h tt)
within_procedure P level (tree.for v a s l b) h = (tt, each_both P (texts_of b of_statement level) [] h tt)
within_procedure P level (tree.thru e b) h = (tt, each_both P (texts_of b of_statement level) [] h tt)
within_procedure P level (tree.case e ss) h = (tt, each_both P (texts_in_stmts ss level) [] h tt)
within_procedure P level (tree.process c task) h = (tt, tt)
within_procedure P level (tree.event act e) h = (tt, tt)
within_procedure P level (tree.write n spot phrases es) h = (tt, tt)

-- ---- levels

module _ (sc : Scopes) (told : Told) where
  abbrev pub Fine : Text → Type 0
  Fine t = (t.level ≤ MOST_LEVEL) × StmtsFit sc told t.level (number_at sc.blocks t.spot) t.stmts

  mutual
    levels : (s : PStmt) (level block : ℕ) → level ≤ MOST_LEVEL → StmtFits sc told level block s → Each Fine (texts_of s of_statement level) → HaveLevels s of_statement level
    levels tree.empty level block le fit h = tt
    levels (tree.label n s) level block le fit h = levels s level block le fit.1 h
    levels (tree.assign v e) level block le fit h = tt
    levels (tree.call_of c) level block le fit h = tt
    levels (tree.go_to n) level block le fit h = tt
    levels (tree.block (tree.body spot tree.no_decls ss)) level block le fit h = (le, (tt, levels_all ss level block le fit h))
    levels (tree.block (tree.body spot (tree.decls d ds) ss)) level block le fit h = (
      fit.0.0,
      (
        levels_decls (tree.decls d ds) (level + 1) (each_left Fine (texts_in_decls (tree.decls d ds) (level + 1)) (texts_in_stmts ss (level + 1)) h),
        levels_all ss (level + 1) (number_at sc.blocks spot) fit.0.0 fit.2 (each_right Fine (texts_in_decls (tree.decls d ds) (level + 1)) (texts_in_stmts ss (level + 1)) h),
      ),
    )
    levels (tree.if_then c x) level block le fit h = levels x level block le fit.1 h
    levels (tree.if_else c x y) level block le fit h = (
      levels x level block le fit.1 (each_left Fine (texts_of x of_statement level) (texts_of y of_statement level) h),
      levels y level block le fit.2 (each_right Fine (texts_of x of_statement level) (texts_of y of_statement level) h),
    )
    levels (tree.while c b) level block le fit h = levels b level block le fit.1 h
    levels (tree.until b c) level block le fit h = levels b level block le fit.0 h
    levels (tree.for v a s l b) level block le fit h = levels b level block le fit.5 h
    levels (tree.thru e b) level block le fit h = levels b level block le fit.1 h
    levels (tree.case e ss) level block le fit h = levels_all ss level block le fit.1 h
    levels (tree.process c task) level block le fit h = tt
    levels (tree.event act e) level block le fit h = tt
    levels (tree.write n spot phrases es) level block le fit h = tt

    pub levels_all : (ss : PStmts) (level block : ℕ) → level ≤ MOST_LEVEL → StmtsFit sc told level block ss → Each Fine (texts_in_stmts ss level) → HaveLevelsStmts ss level
    levels_all tree.no_stmts level block le fit h = tt
    levels_all (tree.stmts s ss) level block le fit h = (
      levels s level block le fit.0 (each_left Fine (texts_of s of_statement level) (texts_in_stmts ss level) h),
      levels_all ss level block le fit.1 (each_right Fine (texts_of s of_statement level) (texts_in_stmts ss level) h),
    )

    pub levels_decls : (ds : PDecls) (level : ℕ) → Each Fine (texts_in_decls ds level) → HaveLevelsDecls ds level
    levels_decls tree.no_decls level h = tt
    levels_decls (tree.decls d ds) level h = (
      levels_decl d level (each_left Fine (texts_in_decl d level) (texts_in_decls ds level) h),
      levels_decls ds level (each_right Fine (texts_in_decl d level) (texts_in_decls ds level) h),
    )

    levels_decl : (d : PDecl) (level : ℕ) → Each Fine (texts_in_decl d level) → HaveLevelsDecl d level
    levels_decl (tree.procedure g s) level h = (h.0.0, levels_procedure s (level + 1) (number_at sc.blocks g.name.spot) h.0.0 h.0.1 h.1)
    levels_decl (tree.simple kind ns) level h = tt
    levels_decl (tree.files ns) level h = tt
    levels_decl (tree.events ns) level h = tt
    levels_decl (tree.tasks ns) level h = tt
    levels_decl (tree.labels ns) level h = tt
    levels_decl (tree.arrays kind ns pairs) level h = tt
    levels_decl (tree.forward g) level h = tt

    levels_procedure : (s : PStmt) (level block : ℕ) → level ≤ MOST_LEVEL → StmtsFit sc told level block (stmts_of s) → Each Fine (texts_of s of_procedure level) → HaveLevels s of_procedure level
    levels_procedure (tree.block (tree.body spot ds ss)) level block le fit h = (
      le,
      (
        levels_decls ds level (each_left Fine (texts_in_decls ds level) (texts_in_stmts ss level) h),
        levels_all ss level block le fit (each_right Fine (texts_in_decls ds level) (texts_in_stmts ss level) h),
      ),
    )
    levels_procedure tree.empty level block le fit h = tt
    levels_procedure (tree.label n s) level block le fit h = levels s level block le fit.0.1 h
    levels_procedure (tree.assign v e) level block le fit h = tt
    levels_procedure (tree.call_of c) level block le fit h = tt
    levels_procedure (tree.go_to n) level block le fit h = tt
    levels_procedure (tree.if_then c x) level block le fit h = levels x level block le fit.0.1 h
    levels_procedure (tree.if_else c x y) level block le fit h = (
      levels x level block le fit.0.1 (each_left Fine (texts_of x of_statement level) (texts_of y of_statement level) h),
      levels y level block le fit.0.2 (each_right Fine (texts_of x of_statement level) (texts_of y of_statement level) h),
    )
    levels_procedure (tree.while c b) level block le fit h = levels b level block le fit.0.1 h
    levels_procedure (tree.until b c) level block le fit h = levels b level block le fit.0.0 h
    levels_procedure (tree.for v a s l b) level block le fit h = levels b level block le fit.0.5 h
    levels_procedure (tree.thru e b) level block le fit h = levels b level block le fit.0.1 h
    levels_procedure (tree.case e ss) level block le fit h = levels_all ss level block le fit.0.1 h
    levels_procedure (tree.process c task) level block le fit h = tt
    levels_procedure (tree.event act e) level block le fit h = tt
    levels_procedure (tree.write n spot phrases es) level block le fit h = tt

-- ---- room

body_few : (s : PStmt) → decls_tokens (decls_of s) + stmts_tokens (stmts_of s) ≤ stmt_tokens s + 1
body_few (tree.block (tree.body spot ds ss)) = omega arith
body_few tree.empty = omega arith
body_few (tree.label n s) = omega arith
body_few (tree.assign v e) = omega arith
body_few (tree.call_of c) = omega arith
body_few (tree.go_to n) = omega arith
body_few (tree.if_then c x) = omega arith
body_few (tree.if_else c x y) = omega arith
body_few (tree.while c b) = omega arith
body_few (tree.until b c) = omega arith
body_few (tree.for v a s l b) = omega arith
body_few (tree.thru e b) = omega arith
body_few (tree.case e ss) = omega arith
body_few (tree.process c task) = omega arith
body_few (tree.event act e) = omega arith
body_few (tree.write n spot phrases es) = omega arith

-- a text has the tokens of its declarations and statements
abbrev pub Roomy : Text → Type 0
Roomy t = decls_tokens t.decls + stmts_tokens t.stmts ≤ t.tokens + 1

pub procedure_roomy : (level : ℕ) (h : Heading) (s : PStmt) → Roomy (procedure_text level h s)
procedure_roomy level h s = omega (arith, body_few s)

pub outer_roomy : (b : PBody) → Roomy (outer_text b)
outer_roomy (tree.body spot ds ss) = omega arith
