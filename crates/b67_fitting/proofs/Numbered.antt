-- The numbers of what is read from tokens are whole, where the tokens are right.
use Rattle.std.proofs.Common.{refl, arith, ℕ, ◌≤◌, Bool, true, false, List, length, subst}
use Rattle.algol_tree.specs.declared.level.Level.{Level}
use Rattle.algol_tree.specs.declared.token.Spot.{Spot}
use Rattle.algol_tree.specs.declared.token.Token.{Token}
use Rattle.b67_deeds.specs.Deeds.{tests, is_of_several}
use Rattle.algol_tree.specs.declared.tree.EventName.{EventName}
use Rattle.algol_tree.specs.declared.tree.Kind.{Kind}
use Rattle.algol_tree.specs.declared.tree.Named.{Named}
use Rattle.algol_tree.specs.Expressions as grammar
use Rattle.algol_tree.specs.Expressions.{IsExprPart, IsMore, IsExprs, IsEvents}
use Rattle.algol_tree.specs.Headings as headings
use Rattle.algol_tree.specs.Headings.{IsNames}
use Rattle.algol_tree.specs.Operators.{Part}
use Rattle.algol_tree.specs.Plain.{PExpr, call, called, PExprs, PPair, PStmt, PStmts, PDecls, no_decls, decls, PBody, PProgram}
use Rattle.algol_tree.specs.Programs as programs
use Rattle.algol_tree.specs.Programs.{IsProgram}
use Rattle.algol_tree.specs.Statements as statements
use Rattle.algol_tree.specs.Statements.{decls_and, IsWholes, IsActuals, IsSubscripts, IsItems, IsPair, IsPairs, IsSegments, IsStmt, IsStmts, IsDecl, IsDecls, IsBody}
use Rattle.b67_templates.specs.Fragments.{IsWholeNumber}
use Rattle.b67_fitting.specs.Numbers.{SourcesHaveWholeNumbers}
use Rattle.b67_fitting.specs.Wholes.{AreNamed, NumbersWhole, AllWhole, BoundsWhole, StmtWhole, StmtsWhole, DeclsWhole, BodyWhole, HasWholeNumbers}
use Rattle.b67_fitting.proofs.Behind.{behind_event, behind_events, behind_names, behind_files, behind_typed, behind_heading, behind_task, behind_to, behind_phrases}
use Rattle.b67_fitting.proofs.HeadingsWhole.{Read, literal_whole, heading_whole}
use Rattle.b67_fitting.proofs.Lexed.{KindRight, TokenRight, AreRight, text_right}

-- ---- expressions

-- a call has actuals
call_whole : {free d : ℕ} {from : List Token} {es : PExprs} {rest : List Token} (n : Named) → IsExprs free d from es rest → AllWhole es → NumbersWhole (call (called n es))
call_whole n (grammar.one d e from rest x) w = w
call_whole n (grammar.comma t d e es from after rest x i y) w = w

-- one event is named, or one at least
one_named : (several : Bool) → AreNamed several 1
one_named true = omega arith
one_named false = refl

some_named : {from : List Token} {es : List EventName} {rest : List Token} → IsEvents from es rest → 1 ≤ length es
some_named (grammar.last e from rest x) = omega arith
some_named (grammar.comma t e es from after rest x i y) = omega arith

mutual
  part_whole : {free : ℕ} {p : Part} {d : ℕ} {from : List Token} {e : PExpr} {rest : List Token} → IsExprPart free p d from e rest → AreRight from → Read (NumbersWhole e) rest
  part_whole (grammar.conditional t u v d c a b from mid otherwise rest i o x j y k z) w =
      let one = part_whole x w.1 in
      let two = part_whole y one.1.1 in
      let three = part_whole z two.1.1 in
      ((one.0, two.0, three.0), three.1)
  part_whole (grammar.unconditional d e from rest x) w = part_whole x w
  part_whole (grammar.chain l d first e from after rest x y) w =
      let one = part_whole x w in
      more_whole y one.0 one.1
  part_whole (grammar.positive t d first e from after rest i x y) w =
      let one = part_whole x w.1 in
      more_whole y one.0 one.1
  part_whole (grammar.negative t d first e from after rest i x y) w =
      let one = part_whole x w.1 in
      more_whole y one.0 one.1
  part_whole (grammar.negation t d e from rest i o x) w = part_whole x w.1
  part_whole (grammar.affirmation d e from rest x) w = part_whole x w
  part_whole (grammar.alone d e from rest x) w = part_whole x w
  part_whole (grammar.relation t op d a b from after rest x i y) w =
      let one = part_whole x w in
      let two = part_whole y one.1.1 in
      ((one.0, two.0), two.1)
  part_whole (grammar.literal t d value rest i) w = (subst KindRight i w.0, w.1)
  part_whole (grammar.yes t d rest i) w = (tt, w.1)
  part_whole (grammar.no_ t d rest i) w = (tt, w.1)
  part_whole (grammar.simple t n d rest k) w = (tt, w.1)
  part_whole (grammar.element t u v n d es from rest k i o x j) w =
      let one = exprs_whole x w.1.1 in
      (one.0, one.1.1)
  part_whole (grammar.called_with t u v n d es from rest k i o x j) w =
      let one = exprs_whole x w.1.1 in
      (call_whole n x one.0, one.1.1)
  part_whole (grammar.asked t u v test d event from rest i j o x k) w = (one_named (is_of_several (tests test)), (behind_event TokenRight x w.1.1).1)
  part_whole (grammar.waited t u v d events from rest i j o x k) w = (some_named x, (behind_events TokenRight x w.1.1).1)
  part_whole (grammar.grouped t u d e from rest i o x j) w =
      let one = part_whole x w.1 in
      (one.0, one.1.1)

  more_whole : {free : ℕ} {l : Level} {d : ℕ} {left : PExpr} {from : List Token} {e : PExpr} {rest : List Token} → IsMore free l d left from e rest → NumbersWhole left → AreRight from → Read (NumbersWhole e) rest
  more_whole (grammar.last l d left rest) h w = (h, w)
  more_whole (grammar.on t l op d left right e from after rest i x y) h w =
      let one = part_whole x w.1 in
      more_whole y (h, one.0) one.1

  exprs_whole : {free d : ℕ} {from : List Token} {es : PExprs} {rest : List Token} → IsExprs free d from es rest → AreRight from → Read (AllWhole es) rest
  exprs_whole (grammar.one d e from rest x) w =
      let one = part_whole x w in
      ((one.0, tt), one.1)
  exprs_whole (grammar.comma t d e es from after rest x i y) w =
      let one = part_whole x w in
      let two = exprs_whole y one.1.1 in
      ((one.0, two.0), two.1)

pub expr_whole : {free d : ℕ} {from : List Token} {e : PExpr} {rest : List Token} → grammar.IsWholeExpression free d from e rest → AreRight from → Read (NumbersWhole e) rest
expr_whole x w = part_whole x.reads w

-- ---- what stands in statements and declarations

pub wholes_whole : {free : ℕ} {from : List Token} {es : PExprs} {rest : List Token} → IsWholes free from es rest → AreRight from → Read (AllWhole es) rest
wholes_whole (statements.one e from rest x) w =
    let one = expr_whole x w in
    ((one.0, tt), one.1)
wholes_whole (statements.comma t e es from after rest x i y) w =
    let one = expr_whole x w in
    let two = wholes_whole y one.1.1 in
    ((one.0, two.0), two.1)

pub actuals_whole : {free : ℕ} {from : List Token} {es : PExprs} {rest : List Token} → IsActuals free from es rest → AreRight from → Read (AllWhole es) rest
actuals_whole (statements.nothing rest) w = (tt, w)
actuals_whole (statements.actuals t u es from rest i x j) w =
    let one = wholes_whole x w.1 in
    (one.0, one.1.1)

pub subscripts_whole : {free : ℕ} {from : List Token} {es : PExprs} {rest : List Token} → IsSubscripts free from es rest → AreRight from → Read (AllWhole es) rest
subscripts_whole (statements.nothing rest) w = (tt, w)
subscripts_whole (statements.subscripts t u es from rest i x j) w =
    let one = wholes_whole x w.1 in
    (one.0, one.1.1)

pub items_whole : {free : ℕ} {from : List Token} {es : PExprs} {rest : List Token} → IsItems free from es rest → AreRight from → Read (AllWhole es) rest
items_whole (statements.nothing rest) w = (tt, w)
items_whole (statements.items t es from rest i x) w = wholes_whole x w.1

pair_whole : {free : ℕ} {from : List Token} {p : PPair} {rest : List Token} → IsPair free from p rest → AreRight from → Read (IsWholeNumber p.low × NumbersWhole p.high) rest
pair_whole (statements.pair t low high from after rest x i y) w =
    let one = literal_whole x w in
    let two = expr_whole y one.1.1 in
    ((one.0, two.0), two.1)

pairs_whole : {free : ℕ} {from : List Token} {ps : List PPair} {rest : List Token} → IsPairs free from ps rest → AreRight from → Read (BoundsWhole ps) rest
pairs_whole (statements.one p from rest x) w =
    let one = pair_whole x w in
    ((tt, (one.0, tt)), one.1)
pairs_whole (statements.two t p q from after rest x i y) w =
    let one = pair_whole x w in
    let two = pair_whole y one.1.1 in
    ((tt, (one.0, (two.0, tt))), two.1)

-- a list of names has one
some_names : {from : List Token} {ns : List Named} {rest : List Token} → IsNames from ns rest → 1 ≤ length ns
some_names (headings.last t n rest k) = omega arith
some_names (headings.comma t u n ns from rest k i x) = omega arith

pub segments_whole : {free : ℕ} {kind : Kind} {from : List Token} {ds : PDecls} {rest : List Token} → IsSegments free kind from ds rest → AreRight from → Read (DeclsWhole ds) rest
segments_whole (statements.last kind u v ns ps from mid rest x i y j) w =
    let one = pairs_whole y (behind_names TokenRight x w).1 in
    (((one.0, some_names x), tt), one.1.1)
segments_whole (statements.comma kind u v x ns ps ds from mid after rest y i z j k s) w =
    let one = pairs_whole z (behind_names TokenRight y w).1 in
    let two = segments_whole s one.1.1.1 in
    (((one.0, some_names y), two.0), two.1)

both_whole : (ds es : PDecls) → DeclsWhole ds → DeclsWhole es → DeclsWhole (decls_and ds es)
both_whole no_decls es g h = h
both_whole (decls d ds) es g h = (g.0, both_whole ds es g.1 h)

-- ---- statements and declarations

mutual
  stmt_whole : {free d : ℕ} {from : List Token} {s : PStmt} {rest : List Token} → IsStmt free d from s rest → AreRight from → Read (StmtWhole s) rest
  stmt_whole (statements.nothing d rest) w = (tt, w)
  stmt_whole (statements.labelled t u n d s from rest k i o x) w = stmt_whole x w.1.1
  stmt_whole (statements.assignment t u n es e d from after rest k x i y) w =
      let one = subscripts_whole x w.1 in
      let two = expr_whole y one.1.1 in
      ((one.0, two.0), two.1)
  stmt_whole (statements.calling t n es d from rest k x) w = actuals_whole x w.1
  stmt_whole (statements.going t u n d from rest i x k) w = (tt, (behind_to TokenRight x w.1).1)
  stmt_whole (statements.compound t u d b from rest i o x j) w =
      let one = body_whole x w.1 in
      (one.0, one.1.1)
  stmt_whole (statements.one_armed t u c d s from mid rest i o x j y) w =
      let one = expr_whole x w.1 in
      let two = stmt_whole y one.1.1 in
      ((one.0, two.0), two.1)
  stmt_whole (statements.two_armed t u v c d a b from mid after rest i o x j y closed k z) w =
      let one = expr_whole x w.1 in
      let two = stmt_whole y one.1.1 in
      let three = stmt_whole z two.1.1 in
      ((one.0, two.0, three.0), three.1)
  stmt_whole (statements.looping t u c d s from mid rest i o x j y) w =
      let one = expr_whole x w.1 in
      let two = stmt_whole y one.1.1 in
      ((one.0, two.0), two.1)
  stmt_whole (statements.repeating t u c d s from mid rest i o x j y) w =
      let one = stmt_whole x w.1 in
      let two = expr_whole y one.1.1 in
      ((one.0, two.0), two.1)
  stmt_whole (statements.counting t u v x y z n a b c d s from step limit mid rest i o k j p l q m r f body) w =
      let one = expr_whole p w.1.1.1 in
      let two = expr_whole q one.1.1 in
      let three = expr_whole r two.1.1 in
      let four = stmt_whole body three.1.1 in
      ((one.0, two.0, three.0, four.0), four.1)
  stmt_whole (statements.so_often t u c d s from mid rest i o x j y) w =
      let one = expr_whole x w.1 in
      let two = stmt_whole y one.1.1 in
      ((one.0, two.0), two.1)
  stmt_whole (statements.choosing t u v x c d ss from mid rest i o e j k y l) w =
      let one = expr_whole e w.1 in
      let two = stmts_whole y one.1.1.1 in
      ((one.0, two.0), two.1.1)
  stmt_whole (statements.processing t u n es task d from mid rest i k x y) w =
      let one = actuals_whole x w.1.1 in
      (one.0, behind_task TokenRight y one.1)
  stmt_whole (statements.acting t u v act e d from rest i j x k) w = (tt, (behind_event TokenRight x w.1.1).1)
  stmt_whole (statements.writing t u v x y z a n ps es d from mid rest i j k l m p g q c) w =
      let one = items_whole q (behind_phrases TokenRight p w.1.1.1.1.1).1 in
      (one.0, one.1.1)

  stmts_whole : {free d : ℕ} {from : List Token} {ss : PStmts} {rest : List Token} → IsStmts free d from ss rest → AreRight from → Read (StmtsWhole ss) rest
  stmts_whole (statements.last d s from rest x) w =
      let one = stmt_whole x w in
      ((one.0, tt), one.1)
  stmts_whole (statements.semicolon t d s ss from mid rest x i y) w =
      let one = stmt_whole x w in
      let two = stmts_whole y one.1.1 in
      ((one.0, two.0), two.1)

  decl_whole : {free d : ℕ} {from : List Token} {ds : PDecls} {rest : List Token} → IsDecl free d from ds rest → AreRight from → Read (DeclsWhole ds) rest
  decl_whole (statements.values t kind ns d from rest i x) w = ((tt, tt), behind_names TokenRight x w.1)
  decl_whole (statements.printers t ns d from rest i x) w = ((tt, tt), behind_files TokenRight x w.1)
  decl_whole (statements.happenings t ns d from rest i x) w = ((tt, tt), behind_names TokenRight x w.1)
  decl_whole (statements.workers t ns d from rest i x) w = ((tt, tt), behind_names TokenRight x w.1)
  decl_whole (statements.places t ns d from rest i x) w = ((tt, tt), behind_names TokenRight x w.1)
  decl_whole (statements.rows t kind ds d from mid rest x i y) w = segments_whole y (behind_typed TokenRight x w).1
  decl_whole (statements.announced t h d from rest x i) w = ((tt, tt), (behind_heading TokenRight x w).1)
  decl_whole (statements.with_body h s d from mid rest x o y) w =
      let one = stmt_whole y (behind_heading TokenRight x w) in
      (((heading_whole x w, one.0), tt), one.1)

  decls_whole : {free d : ℕ} {from : List Token} {ds : PDecls} {rest : List Token} → IsDecls free d from ds rest → AreRight from → Read (DeclsWhole ds) rest
  decls_whole (statements.no_more d rest) w = (tt, w)
  decls_whole (statements.another t d ds es from mid rest x i y) w =
      let one = decl_whole x w in
      let two = decls_whole y one.1.1 in
      (both_whole ds es one.0 two.0, two.1)

  body_whole : {free d : ℕ} {spot : Spot} {from : List Token} {b : PBody} {rest : List Token} → IsBody free d spot from b rest → AreRight from → Read (BodyWhole b) rest
  body_whole (statements.declared d spot ds ss from mid rest x y) w =
      let one = decls_whole x w in
      let two = stmts_whole y one.1 in
      ((one.0, two.0), two.1)

program_whole : {free : ℕ} {from : List Token} {p : PProgram} {rest : List Token} → IsProgram free from p rest → AreRight from → HasWholeNumbers p
program_whole (programs.whole t u v b from rest i x j k) w = (body_whole x w.1).0

pub sources_whole : SourcesHaveWholeNumbers
sources_whole bytes p s = program_whole s.reads.is (text_right s.lexes)
