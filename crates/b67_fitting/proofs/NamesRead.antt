-- Each procedure of what is read from tokens has a name, where the tokens are right.
use Rattle.std.proofs.Common.{◌≡◌, ℕ, false, List, [], subst}
use Rattle.algol_tree.specs.declared.token.Spot.{Spot}
use Rattle.algol_tree.specs.declared.token.Token.{Token}
use Rattle.algol_tree.specs.declared.tree.Heading.{Heading}
use Rattle.algol_tree.specs.declared.tree.Kind.{Kind}
use Rattle.algol_tree.specs.Headings as headings
use Rattle.algol_tree.specs.Headings.{IsHeading}
use Rattle.algol_tree.specs.Plain.{PStmt, PStmts, PDecls, no_decls, decls, PBody, PProgram}
use Rattle.algol_tree.specs.Programs as programs
use Rattle.algol_tree.specs.Programs.{IsProgram}
use Rattle.algol_tree.specs.Sorts.{same_name}
use Rattle.algol_tree.specs.Statements as statements
use Rattle.algol_tree.specs.Statements.{decls_and, IsSegments, IsStmt, IsStmts, IsDecl, IsDecls, IsBody}
use Rattle.b67_templates.specs.Names.{StmtNamed, StmtsNamed, DeclsNamed, BodyNamed, HasNames, SourcesHaveNames}
use Rattle.b67_fitting.proofs.Behind.{behind_event, behind_names, behind_files, behind_typed, behind_heading, behind_task, behind_to, behind_phrases}
use Rattle.b67_fitting.proofs.HeadingsWhole.{Read}
use Rattle.b67_fitting.proofs.Lexed.{KindRight, TokenRight, AreRight, text_right}
use Rattle.b67_fitting.proofs.Numbered.{expr_whole, actuals_whole, subscripts_whole, items_whole, segments_whole}

heading_named : {from : List Token} {h : Heading} {rest : List Token} → IsHeading from h rest → AreRight from → same_name h.name.name [] ≡ false
heading_named (headings.without t u v kind n from rest x i k j) w = subst KindRight k.name (behind_typed TokenRight x w).1.0
heading_named (headings.with_params t u v w x kind n params values ss from names mid after rest y i k j z l m vs sp) h =
    subst KindRight k.name (behind_typed TokenRight y h).1.0

-- ---- declarations

segments_named : {free : ℕ} {kind : Kind} {from : List Token} {ds : PDecls} {rest : List Token} → IsSegments free kind from ds rest → DeclsNamed ds
segments_named (statements.last kind u v ns ps from mid rest x i y j) = (tt, tt)
segments_named (statements.comma kind u v x ns ps ds from mid after rest y i z j k s) = (tt, segments_named s)

both_named : (ds es : PDecls) → DeclsNamed ds → DeclsNamed es → DeclsNamed (decls_and ds es)
both_named no_decls es g h = h
both_named (decls d ds) es g h = (g.0, both_named ds es g.1 h)

-- ---- statements and declarations

mutual
  stmt_named : {free d : ℕ} {from : List Token} {s : PStmt} {rest : List Token} → IsStmt free d from s rest → AreRight from → Read (StmtNamed s) rest
  stmt_named (statements.nothing d rest) w = (tt, w)
  stmt_named (statements.labelled t u n d s from rest k i o x) w = stmt_named x w.1.1
  stmt_named (statements.assignment t u n es e d from after rest k x i y) w = (tt, (expr_whole y (subscripts_whole x w.1).1.1).1)
  stmt_named (statements.calling t n es d from rest k x) w = (tt, (actuals_whole x w.1).1)
  stmt_named (statements.going t u n d from rest i x k) w = (tt, (behind_to TokenRight x w.1).1)
  stmt_named (statements.compound t u d b from rest i o x j) w =
      let one = body_named x w.1 in
      (one.0, one.1.1)
  stmt_named (statements.one_armed t u c d s from mid rest i o x j y) w = stmt_named y (expr_whole x w.1).1.1
  stmt_named (statements.two_armed t u v c d a b from mid after rest i o x j y closed k z) w =
      let two = stmt_named y (expr_whole x w.1).1.1 in
      let three = stmt_named z two.1.1 in
      ((two.0, three.0), three.1)
  stmt_named (statements.looping t u c d s from mid rest i o x j y) w = stmt_named y (expr_whole x w.1).1.1
  stmt_named (statements.repeating t u c d s from mid rest i o x j y) w =
      let one = stmt_named x w.1 in
      (one.0, (expr_whole y one.1.1).1)
  stmt_named (statements.counting t u v x y z n a b c d s from step limit mid rest i o k j p l q m r f body) w =
      stmt_named body (expr_whole r (expr_whole q (expr_whole p w.1.1.1).1.1).1.1).1.1
  stmt_named (statements.so_often t u c d s from mid rest i o x j y) w = stmt_named y (expr_whole x w.1).1.1
  stmt_named (statements.choosing t u v x c d ss from mid rest i o e j k y l) w =
      let two = stmts_named y (expr_whole e w.1).1.1.1 in
      (two.0, two.1.1)
  stmt_named (statements.processing t u n es task d from mid rest i k x y) w = (tt, behind_task TokenRight y (actuals_whole x w.1.1).1)
  stmt_named (statements.acting t u v act e d from rest i j x k) w = (tt, (behind_event TokenRight x w.1.1).1)
  stmt_named (statements.writing t u v x y z a n ps es d from mid rest i j k l m p g q c) w = (tt, (items_whole q (behind_phrases TokenRight p w.1.1.1.1.1).1).1.1)

  stmts_named : {free d : ℕ} {from : List Token} {ss : PStmts} {rest : List Token} → IsStmts free d from ss rest → AreRight from → Read (StmtsNamed ss) rest
  stmts_named (statements.last d s from rest x) w =
      let one = stmt_named x w in
      ((one.0, tt), one.1)
  stmts_named (statements.semicolon t d s ss from mid rest x i y) w =
      let one = stmt_named x w in
      let two = stmts_named y one.1.1 in
      ((one.0, two.0), two.1)

  decl_named : {free d : ℕ} {from : List Token} {ds : PDecls} {rest : List Token} → IsDecl free d from ds rest → AreRight from → Read (DeclsNamed ds) rest
  decl_named (statements.values t kind ns d from rest i x) w = ((tt, tt), behind_names TokenRight x w.1)
  decl_named (statements.printers t ns d from rest i x) w = ((tt, tt), behind_files TokenRight x w.1)
  decl_named (statements.happenings t ns d from rest i x) w = ((tt, tt), behind_names TokenRight x w.1)
  decl_named (statements.workers t ns d from rest i x) w = ((tt, tt), behind_names TokenRight x w.1)
  decl_named (statements.places t ns d from rest i x) w = ((tt, tt), behind_names TokenRight x w.1)
  decl_named (statements.rows t kind ds d from mid rest x i y) w = (segments_named y, (segments_whole y (behind_typed TokenRight x w).1).1)
  decl_named (statements.announced t h d from rest x i) w = ((tt, tt), (behind_heading TokenRight x w).1)
  decl_named (statements.with_body h s d from mid rest x o y) w =
      let one = stmt_named y (behind_heading TokenRight x w) in
      (((heading_named x w, one.0), tt), one.1)

  decls_named : {free d : ℕ} {from : List Token} {ds : PDecls} {rest : List Token} → IsDecls free d from ds rest → AreRight from → Read (DeclsNamed ds) rest
  decls_named (statements.no_more d rest) w = (tt, w)
  decls_named (statements.another t d ds es from mid rest x i y) w =
      let one = decl_named x w in
      let two = decls_named y one.1.1 in
      (both_named ds es one.0 two.0, two.1)

  body_named : {free d : ℕ} {spot : Spot} {from : List Token} {b : PBody} {rest : List Token} → IsBody free d spot from b rest → AreRight from → Read (BodyNamed b) rest
  body_named (statements.declared d spot ds ss from mid rest x y) w =
      let one = decls_named x w in
      let two = stmts_named y one.1 in
      ((one.0, two.0), two.1)

program_named : {free : ℕ} {from : List Token} {p : PProgram} {rest : List Token} → IsProgram free from p rest → AreRight from → HasNames p
program_named (programs.whole t u v b from rest i x j k) w = (body_named x w.1).0

pub sources_named : SourcesHaveNames
sources_named bytes p s = program_named s.reads.is (text_right s.lexes)
