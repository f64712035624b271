-- The texts of what is read from tokens are plain, where the tokens are right.
use Rattle.std.proofs.Common.{◌≡◌, ℕ, List, Some, None, subst}
use Rattle.algol_tree.specs.declared.token.Spot.{Spot}
use Rattle.algol_tree.specs.declared.token.Token.{Token}
use Rattle.algol_tree.specs.declared.token.TokenKind.{TokenKind}
use Rattle.algol_tree.specs.declared.token.TokenKind.TheVariants as kinds
use Rattle.algol_tree.specs.declared.tree.Kind.{Kind}
use Rattle.algol_tree.specs.declared.tree.PhraseText.{PhraseText}
use Rattle.algol_tree.specs.declared.tree.PhraseText.TheVariants as phrase
use Rattle.algol_tree.specs.Plain.{PStmt, PStmts, PDecls, no_decls, decls, PBody, PProgram}
use Rattle.algol_tree.specs.Programs as programs
use Rattle.algol_tree.specs.Programs.{IsProgram}
use Rattle.algol_tree.specs.Statements as statements
use Rattle.algol_tree.specs.Statements.{decls_and, phrase_of, IsPhrases, IsSegments, IsStmt, IsStmts, IsDecl, IsDecls, IsBody}
use Rattle.b67_fitting.specs.Texts.{PhrasePlain, PhrasesPlain, StmtPlain, StmtsPlain, DeclsPlain, BodyPlain, HasPlainTexts, SourcesHavePlainTexts}
use Rattle.b67_fitting.proofs.Behind.{behind_event, behind_names, behind_files, behind_typed, behind_heading, behind_task, behind_to}
use Rattle.b67_fitting.proofs.HeadingsWhole.{Read}
use Rattle.b67_fitting.proofs.Lexed.{KindRight, TokenRight, AreRight, text_right}
use Rattle.b67_fitting.proofs.Numbered.{expr_whole, actuals_whole, subscripts_whole, items_whole, segments_whole}

-- ---- phrases

phrase_plain : (k : TokenKind) (p : PhraseText) → phrase_of k ≡ Some p → KindRight k → PhrasePlain p
phrase_plain (kinds.Text bytes) p e h =
    let is : phrase.Text bytes ≡ p = cc in subst PhrasePlain is h
phrase_plain (kinds.Name name) p e h =
    let is : phrase.Word name ≡ p = cc in subst PhrasePlain is tt
phrase_plain (kinds.Word w) p e h = absurd (let clash : None ≡ Some p = e in cc)
phrase_plain (kinds.Number value) p e h = absurd (let clash : None ≡ Some p = e in cc)
phrase_plain (kinds.Symbol s) p e h = absurd (let clash : None ≡ Some p = e in cc)
phrase_plain kinds.End p e h = absurd (let clash : None ≡ Some p = e in cc)

phrases_plain : {from : List Token} {ps : List PhraseText} {rest : List Token} → IsPhrases from ps rest → AreRight from → Read (PhrasesPlain ps) rest
phrases_plain (statements.last t p rest i) w = ((phrase_plain t.kind p i w.0, tt), w.1)
phrases_plain (statements.comma t u p ps from rest i j x) w =
    let one = phrases_plain x w.1.1 in
    ((phrase_plain t.kind p i w.0, one.0), one.1)

-- ---- declarations

segments_plain : {free : ℕ} {kind : Kind} {from : List Token} {ds : PDecls} {rest : List Token} → IsSegments free kind from ds rest → DeclsPlain ds
segments_plain (statements.last kind u v ns ps from mid rest x i y j) = (tt, tt)
segments_plain (statements.comma kind u v x ns ps ds from mid after rest y i z j k s) = (tt, segments_plain s)

both_plain : (ds es : PDecls) → DeclsPlain ds → DeclsPlain es → DeclsPlain (decls_and ds es)
both_plain no_decls es g h = h
both_plain (decls d ds) es g h = (g.0, both_plain ds es g.1 h)

-- ---- statements and declarations

mutual
  stmt_plain : {free d : ℕ} {from : List Token} {s : PStmt} {rest : List Token} → IsStmt free d from s rest → AreRight from → Read (StmtPlain s) rest
  stmt_plain (statements.nothing d rest) w = (tt, w)
  stmt_plain (statements.labelled t u n d s from rest k i o x) w = stmt_plain x w.1.1
  stmt_plain (statements.assignment t u n es e d from after rest k x i y) w = (tt, (expr_whole y (subscripts_whole x w.1).1.1).1)
  stmt_plain (statements.calling t n es d from rest k x) w = (tt, (actuals_whole x w.1).1)
  stmt_plain (statements.going t u n d from rest i x k) w = (tt, (behind_to TokenRight x w.1).1)
  stmt_plain (statements.compound t u d b from rest i o x j) w =
      let one = body_plain x w.1 in
      (one.0, one.1.1)
  stmt_plain (statements.one_armed t u c d s from mid rest i o x j y) w = stmt_plain y (expr_whole x w.1).1.1
  stmt_plain (statements.two_armed t u v c d a b from mid after rest i o x j y closed k z) w =
      let two = stmt_plain y (expr_whole x w.1).1.1 in
      let three = stmt_plain z two.1.1 in
      ((two.0, three.0), three.1)
  stmt_plain (statements.looping t u c d s from mid rest i o x j y) w = stmt_plain y (expr_whole x w.1).1.1
  stmt_plain (statements.repeating t u c d s from mid rest i o x j y) w =
      let one = stmt_plain x w.1 in
      (one.0, (expr_whole y one.1.1).1)
  stmt_plain (statements.counting t u v x y z n a b c d s from step limit mid rest i o k j p l q m r f body) w =
      stmt_plain body (expr_whole r (expr_whole q (expr_whole p w.1.1.1).1.1).1.1).1.1
  stmt_plain (statements.so_often t u c d s from mid rest i o x j y) w = stmt_plain y (expr_whole x w.1).1.1
  stmt_plain (statements.choosing t u v x c d ss from mid rest i o e j k y l) w =
      let two = stmts_plain y (expr_whole e w.1).1.1.1 in
      (two.0, two.1.1)
  stmt_plain (statements.processing t u n es task d from mid rest i k x y) w = (tt, behind_task TokenRight y (actuals_whole x w.1.1).1)
  stmt_plain (statements.acting t u v act e d from rest i j x k) w = (tt, (behind_event TokenRight x w.1.1).1)
  stmt_plain (statements.writing t u v x y z a n ps es d from mid rest i j k l m p g q c) w =
      let one = phrases_plain p w.1.1.1.1.1 in
      (one.0, (items_whole q one.1.1).1.1)

  stmts_plain : {free d : ℕ} {from : List Token} {ss : PStmts} {rest : List Token} → IsStmts free d from ss rest → AreRight from → Read (StmtsPlain ss) rest
  stmts_plain (statements.last d s from rest x) w =
      let one = stmt_plain x w in
      ((one.0, tt), one.1)
  stmts_plain (statements.semicolon t d s ss from mid rest x i y) w =
      let one = stmt_plain x w in
      let two = stmts_plain y one.1.1 in
      ((one.0, two.0), two.1)

  decl_plain : {free d : ℕ} {from : List Token} {ds : PDecls} {rest : List Token} → IsDecl free d from ds rest → AreRight from → Read (DeclsPlain ds) rest
  decl_plain (statements.values t kind ns d from rest i x) w = ((tt, tt), behind_names TokenRight x w.1)
  decl_plain (statements.printers t ns d from rest i x) w = ((tt, tt), behind_files TokenRight x w.1)
  decl_plain (statements.happenings t ns d from rest i x) w = ((tt, tt), behind_names TokenRight x w.1)
  decl_plain (statements.workers t ns d from rest i x) w = ((tt, tt), behind_names TokenRight x w.1)
  decl_plain (statements.places t ns d from rest i x) w = ((tt, tt), behind_names TokenRight x w.1)
  decl_plain (statements.rows t kind ds d from mid rest x i y) w = (segments_plain y, (segments_whole y (behind_typed TokenRight x w).1).1)
  decl_plain (statements.announced t h d from rest x i) w = ((tt, tt), (behind_heading TokenRight x w).1)
  decl_plain (statements.with_body h s d from mid rest x o y) w =
      let one = stmt_plain y (behind_heading TokenRight x w) in
      ((one.0, tt), one.1)

  decls_plain : {free d : ℕ} {from : List Token} {ds : PDecls} {rest : List Token} → IsDecls free d from ds rest → AreRight from → Read (DeclsPlain ds) rest
  decls_plain (statements.no_more d rest) w = (tt, w)
  decls_plain (statements.another t d ds es from mid rest x i y) w =
      let one = decl_plain x w in
      let two = decls_plain y one.1.1 in
      (both_plain ds es one.0 two.0, two.1)

  body_plain : {free d : ℕ} {spot : Spot} {from : List Token} {b : PBody} {rest : List Token} → IsBody free d spot from b rest → AreRight from → Read (BodyPlain b) rest
  body_plain (statements.declared d spot ds ss from mid rest x y) w =
      let one = decls_plain x w in
      let two = stmts_plain y one.1 in
      ((one.0, two.0), two.1)

program_plain : {free : ℕ} {from : List Token} {p : PProgram} {rest : List Token} → IsProgram free from p rest → AreRight from → HasPlainTexts p
program_plain (programs.whole t u v b from rest i x j k) w = (body_plain x w.1).0

pub sources_plain : SourcesHavePlainTexts
sources_plain bytes p s = program_plain s.reads.is (text_right s.lexes)
