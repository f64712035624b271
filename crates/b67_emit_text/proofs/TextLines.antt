-- The lines of the texts of a program are those of its tree.
use Rattle.std.proofs.Common.{◌≡◌, ℕ, ◌+◌, List, [], ◌∷◌, ◌++◌, take, refl, sym, ap, ◌∙◌, append_assoc}
use Rattle.std.specs.Prelude.{Some, slice_get}
use Rattle.std.proofs.lemmas.List.{append-nil, take_more}
use Rattle.algol_tree.specs.declared.token.Spot.{Spot}
use Rattle.algol_tree.specs.declared.tree.PhraseText.{PhraseText}
use Rattle.algol_tree.specs.Blocks.{Begin, of_statement, of_procedure, stmts_of}
use Rattle.algol_tree.specs.Plain as tree
use Rattle.algol_tree.specs.Plain.{PStmt, PStmts, PDecl, PDecls, PBody}
use Rattle.b67_ops.specs.declared.TheConstants.{OUTER_LEVEL}
use Rattle.b67_faithful.specs.Lines.{stmt_lines, stmts_lines, lines_within, lines_within_stmts, lines_within_decl, lines_within_decls, lines_within_body, lines_in}
use Rattle.b67_emit_stmt.specs.Labels.{label_spots_in}
use Rattle.b67_emit_text.specs.Texts.{Text, begin_level, text_spots, texts, texts_lines, texts_of, texts_in_body, texts_in_decl, texts_in_decls, texts_in_stmts}
use Rattle.b67_emit_text.proofs.TextNumbers.{lies_within}
use Rattle.b67_emit_text.proofs.TextProgram.{got}

both : (xs ys : List Text) → texts_lines (xs ++ ys) ≡ texts_lines xs ++ texts_lines ys
both [] ys = refl
both (x ∷ xs) ys = ap (λ ls. stmts_lines x.stmts ++ ls) (both xs ys) ∙ sym (append_assoc (stmts_lines x.stmts) (texts_lines xs) (texts_lines ys))

-- up to the next text
pub next_text_lines : (ts : List Text) (k : ℕ) (t : Text) → slice_get ts k ≡ Some t → texts_lines (take (k + 1) ts) ≡ texts_lines (take k ts) ++ stmts_lines t.stmts
next_text_lines ts k t e =
    let more : take (k + 1) ts ≡ take k ts ++ t ∷ [] = take_more ts k t (lies_within ts k t e) ∙ ap (λ u. take k ts ++ u ∷ []) (got ts k t e) in
    ap texts_lines more ∙ both (take k ts) (t ∷ []) ∙ ap (λ ls. texts_lines (take k ts) ++ ls) (append-nil (stmts_lines t.stmts))

-- .. and likewise the places of its labels
both_spots : (xs ys : List Text) → text_spots (xs ++ ys) ≡ text_spots xs ++ text_spots ys
both_spots [] ys = refl
both_spots (x ∷ xs) ys = ap (λ (l : List Spot). label_spots_in x.stmts ++ l) (both_spots xs ys) ∙ sym (append_assoc (label_spots_in x.stmts) (text_spots xs) (text_spots ys))

pub next_text_spots : (ts : List Text) (k : ℕ) (t : Text) → slice_get ts k ≡ Some t → text_spots (take (k + 1) ts) ≡ text_spots (take k ts) ++ label_spots_in t.stmts
next_text_spots ts k t e =
    let more : take (k + 1) ts ≡ take k ts ++ t ∷ [] = take_more ts k t (lies_within ts k t e) ∙ ap (λ u. take k ts ++ u ∷ []) (got ts k t e) in
    ap text_spots more ∙ both_spots (take k ts) (t ∷ []) ∙ ap (λ (l : List Spot). text_spots (take k ts) ++ l) (append-nil (label_spots_in t.stmts))

-- the statements of a procedure's text
own : (s : PStmt) → stmts_lines (stmts_of s) ≡ stmt_lines s
own tree.empty = refl
own (tree.label n s) = append-nil (stmt_lines s)
own (tree.assign v e) = refl
own (tree.call_of c) = refl
own (tree.go_to n) = refl
own (tree.block (tree.body spot ds ss)) = refl
own (tree.if_then c x) = append-nil (stmt_lines x)
own (tree.if_else c x y) = append-nil (stmt_lines x ++ stmt_lines y)
own (tree.while c b) = append-nil (stmt_lines b)
own (tree.until b c) = append-nil (stmt_lines b)
own (tree.for v a s l b) = append-nil (stmt_lines b)
own (tree.thru e b) = append-nil (stmt_lines b)
own (tree.case e ss) = append-nil (stmts_lines ss)
own (tree.process c task) = refl
own (tree.event act e) = refl
own (tree.write n spot phrases es) = refl

-- two lists of texts, each with its lines
together : (xs ys : List Text) (ls ms : List (List PhraseText)) → texts_lines xs ≡ ls → texts_lines ys ≡ ms → texts_lines (xs ++ ys) ≡ ls ++ ms
together xs ys ls ms e f = both xs ys ∙ ap (λ l. l ++ texts_lines ys) e ∙ ap (λ l. ls ++ l) f

mutual
  of_stmt : (s : PStmt) (begin : Begin) (level : ℕ) → texts_lines (texts_of s begin level) ≡ lines_within s
  of_stmt tree.empty begin level = refl
  of_stmt (tree.label n s) begin level = of_stmt s of_statement level
  of_stmt (tree.assign v e) begin level = refl
  of_stmt (tree.call_of c) begin level = refl
  of_stmt (tree.go_to n) begin level = refl
  of_stmt (tree.block b) begin level = of_body b (begin_level begin b level)
  of_stmt (tree.if_then c x) begin level = of_stmt x of_statement level
  of_stmt (tree.if_else c x y) begin level =
      together (texts_of x of_statement level) (texts_of y of_statement level) (lines_within x) (lines_within y) (of_stmt x of_statement level) (of_stmt y of_statement level)
  of_stmt (tree.while c b) begin level = of_stmt b of_statement level
  of_stmt (tree.until b c) begin level = of_stmt b of_statement level
  of_stmt (tree.for v a s l b) begin level = of_stmt b of_statement level
  of_stmt (tree.thru e b) begin level = of_stmt b of_statement level
  of_stmt (tree.case e ss) begin level = of_stmts ss level
  of_stmt (tree.process c task) begin level = refl
  of_stmt (tree.event act e) begin level = refl
  of_stmt (tree.write n spot phrases es) begin level = refl

  of_stmts : (ss : PStmts) (level : ℕ) → texts_lines (texts_in_stmts ss level) ≡ lines_within_stmts ss
  of_stmts tree.no_stmts level = refl
  of_stmts (tree.stmts s ss) level =
      together (texts_of s of_statement level) (texts_in_stmts ss level) (lines_within s) (lines_within_stmts ss) (of_stmt s of_statement level) (of_stmts ss level)

  of_decl : (d : PDecl) (level : ℕ) → texts_lines (texts_in_decl d level) ≡ lines_within_decl d
  of_decl (tree.simple kind ns) level = refl
  of_decl (tree.files ns) level = refl
  of_decl (tree.events ns) level = refl
  of_decl (tree.tasks ns) level = refl
  of_decl (tree.labels ns) level = refl
  of_decl (tree.arrays kind ns pairs) level = refl
  of_decl (tree.forward h) level = refl
  of_decl (tree.procedure h s) level =
      ap (λ l. l ++ texts_lines (texts_of s of_procedure (level + 1))) (own s) ∙ ap (λ l. stmt_lines s ++ l) (of_stmt s of_procedure (level + 1))

  of_decls : (ds : PDecls) (level : ℕ) → texts_lines (texts_in_decls ds level) ≡ lines_within_decls ds
  of_decls tree.no_decls level = refl
  of_decls (tree.decls d ds) level =
      together (texts_in_decl d level) (texts_in_decls ds level) (lines_within_decl d) (lines_within_decls ds) (of_decl d level) (of_decls ds level)

  of_body : (b : PBody) (level : ℕ) → texts_lines (texts_in_body b level) ≡ lines_within_body b
  of_body (tree.body spot ds ss) level =
      together (texts_in_decls ds level) (texts_in_stmts ss level) (lines_within_decls ds) (lines_within_stmts ss) (of_decls ds level) (of_stmts ss level)

-- the texts of a program
pub texts_are_lines : (b : PBody) → texts_lines (texts b) ≡ lines_in b
texts_are_lines (tree.body spot ds ss) = ap (λ l. stmts_lines ss ++ l) (of_body (tree.body spot ds ss) OUTER_LEVEL)
