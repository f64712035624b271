-- The places of a program are picked from its tokens in their order.
use Rattle.std.proofs.Common.{◌≡◌, ℕ, ℤ, List, [], ◌∷◌, ◌++◌, Option, refl, sym, subst, ap, ◌∙◌, append_assoc}
use Rattle.std.specs.List.{flat_map}
use Rattle.std.proofs.lemmas.List.{map-append}
use Rattle.algol_tree.specs.declared.token.Spot.{Spot}
use Rattle.algol_tree.specs.declared.token.Token.{Token}
use Rattle.algol_tree.specs.declared.tree.Named.{Named}
use Rattle.algol_tree.specs.declared.tree.Kind.{Kind}
use Rattle.algol_tree.specs.declared.tree.Heading.{Heading}
use Rattle.algol_tree.specs.declared.tree.PhraseText.{PhraseText}
use Rattle.algol_tree.specs.declared.tree.Spec.{Spec}
use Rattle.algol_tree.specs.Plain.{PExprs, PPair, PStmt, PStmts, PDecls, no_decls, decls, PBody, PProgram}
use Rattle.algol_tree.specs.Names.{names_of_spec}
use Rattle.algol_tree.specs.Ascending.{spots_of_names, spots_of_expr, spots_of_exprs, spots_of_task, spots_of_heading, spots_of_pairs, spots_of_stmt, spots_of_stmts, spots_of_decl, spots_of_decls, spots_of_body, spots_of, IsInOrder}
use Rattle.algol_tree.specs.Headings as headings
use Rattle.algol_tree.specs.Headings.{IsTyped, IsNames, IsFile, IsFiles, IsLiteral, IsLows, IsSpec, IsSpecs, IsValues, IsHeading}
use Rattle.algol_tree.specs.Statements as grammar
use Rattle.algol_tree.specs.Statements.{decls_and, IsWholes, IsActuals, IsSubscripts, IsTaskPart, IsTo, IsPhrases, IsItems, IsPair, IsPairs, IsSegments, IsStmt, IsStmts, IsDecl, IsDecls, IsBody}
use Rattle.algol_tree.specs.Programs.{IsProgram, whole, Reads}
use Rattle.algol_lexer.specs.Order.{AreInOrder}
use Rattle.algol_grammar.proofs.Picks.{Picks, over, passed, picked, and_then, up_to, named, picks_ascend, event_picks, whole_picks}

-- lists and headings

names_picks : {from : List Token} {ns : List Named} {rest : List Token} → IsNames from ns rest → Picks from (spots_of_names ns) rest
names_picks (headings.last t n rest k) = named k (over rest)
names_picks (headings.comma t u n ns from rest k i x) = named k (passed u (names_picks x))

file_picks : {from : List Token} {n : Named} {rest : List Token} → IsFile from n rest → Picks from (n.spot ∷ []) rest
file_picks (headings.bare t n rest k) = named k (over rest)
file_picks (headings.printer t opening key equal value closing n rest k a b c d e) =
    named k (passed opening (passed key (passed equal (passed value (passed closing (over rest))))))

files_picks : {from : List Token} {ns : List Named} {rest : List Token} → IsFiles from ns rest → Picks from (spots_of_names ns) rest
files_picks (headings.last n from rest x) = file_picks x
files_picks (headings.comma u n ns from after rest x i y) = and_then (file_picks x) (passed u (files_picks y))

typed_picks : {from : List Token} {kind : Option Kind} {rest : List Token} → IsTyped from kind rest → Picks from [] rest
typed_picks (headings.untyped rest) = over rest
typed_picks (headings.typed t kind rest i) = passed t (over rest)

literal_picks : {from : List Token} {low : ℤ} {rest : List Token} → IsLiteral from low rest → Picks from [] rest
literal_picks (headings.positive t value rest i) = passed t (over rest)
literal_picks (headings.negative t u value rest i j) = passed t (passed u (over rest))

lows_picks : {from : List Token} {lows : List ℤ} {rest : List Token} → IsLows from lows rest → Picks from [] rest
lows_picks (headings.one low from rest x) = literal_picks x
lows_picks (headings.two u low other from after rest x i y) = up_to (literal_picks x) (passed u (literal_picks y))

spec_picks : {from : List Token} {s : Spec} {rest : List Token} → IsSpec from s rest → Picks from (spots_of_names (names_of_spec s)) rest
spec_picks (headings.simple t u kind ns from rest i x j) = passed t (up_to (names_picks x) (passed u (over rest)))
spec_picks (headings.events t u ns from rest i x j) = passed t (up_to (names_picks x) (passed u (over rest)))
spec_picks (headings.arrays t u v w kind ns lows from names mid rest x i y j z k l) =
    and_then (typed_picks x) (passed t (up_to (names_picks y) (passed u (up_to (lows_picks z) (passed v (passed w (over rest)))))))

both_names : (ns ms : List Named) {from rest : List Token} → Picks from (spots_of_names ns ++ spots_of_names ms) rest → Picks from (spots_of_names (ns ++ ms)) rest
both_names ns ms {from} {rest} p = subst (λ (spots : List Spot). Picks from spots rest) (sym (map-append (λ (n : Named). n.spot) ns ms)) p

specs_picks : {from : List Token} {ss : List Spec} {rest : List Token} → IsSpecs from ss rest → Picks from (spots_of_names (flat_map names_of_spec ss)) rest
specs_picks (headings.last s from rest x) = both_names (names_of_spec s) [] (and_then (spec_picks x) (over rest))
specs_picks (headings.on s ss from mid rest x y) = both_names (names_of_spec s) (flat_map names_of_spec ss) (and_then (spec_picks x) (specs_picks y))

values_picks : {from : List Token} {ns : List Named} {rest : List Token} → IsValues from ns rest → Picks from (spots_of_names ns) rest
values_picks (headings.nothing rest) = over rest
values_picks (headings.values t u ns from rest i x j) = passed t (up_to (names_picks x) (passed u (over rest)))

heading_picks : {from : List Token} {h : Heading} {rest : List Token} → IsHeading from h rest → Picks from (spots_of_heading h) rest
heading_picks (headings.without t u v kind n from rest x i k j) = and_then (typed_picks x) (passed t (named k (passed v (over rest))))
heading_picks (headings.with_params t u v w x kind n params values ss from names mid after rest y i k j z l m vs sp) =
    and_then (typed_picks y) (passed t (named k (passed v (and_then (and_then (names_picks z) (passed w (passed x (values_picks vs)))) (specs_picks sp)))))

-- what stands in statements and declarations

wholes_picks : {free : ℕ} {from : List Token} {es : PExprs} {rest : List Token} → IsWholes free from es rest → Picks from (spots_of_exprs es) rest
wholes_picks (grammar.one e from rest x) = and_then (whole_picks x) (over rest)
wholes_picks (grammar.comma t e es from after rest x i y) = and_then (whole_picks x) (passed t (wholes_picks y))

actuals_picks : {free : ℕ} {from : List Token} {es : PExprs} {rest : List Token} → IsActuals free from es rest → Picks from (spots_of_exprs es) rest
actuals_picks (grammar.nothing rest) = over rest
actuals_picks (grammar.actuals t u es from rest i x j) = passed t (up_to (wholes_picks x) (passed u (over rest)))

subscripts_picks : {free : ℕ} {from : List Token} {es : PExprs} {rest : List Token} → IsSubscripts free from es rest → Picks from (spots_of_exprs es) rest
subscripts_picks (grammar.nothing rest) = over rest
subscripts_picks (grammar.subscripts t u es from rest i x j) = passed t (up_to (wholes_picks x) (passed u (over rest)))

task_picks : {from : List Token} {task : Option Named} {rest : List Token} → IsTaskPart from task rest → Picks from (spots_of_task task) rest
task_picks (grammar.nothing rest) = over rest
task_picks (grammar.task t u v n rest i k j) = passed t (named k (passed v (over rest)))

to_picks : {from rest : List Token} → IsTo from rest → Picks from [] rest
to_picks (grammar.nothing rest) = over rest
to_picks (grammar.to t rest i) = passed t (over rest)

phrases_picks : {from : List Token} {ps : List PhraseText} {rest : List Token} → IsPhrases from ps rest → Picks from [] rest
phrases_picks (grammar.last t p rest i) = passed t (over rest)
phrases_picks (grammar.comma t u p ps from rest i j x) = passed t (passed u (phrases_picks x))

items_picks : {free : ℕ} {from : List Token} {es : PExprs} {rest : List Token} → IsItems free from es rest → Picks from (spots_of_exprs es) rest
items_picks (grammar.nothing rest) = over rest
items_picks (grammar.items t es from rest i x) = passed t (wholes_picks x)

pair_picks : {free : ℕ} {from : List Token} {p : PPair} {rest : List Token} → IsPair free from p rest → Picks from (spots_of_expr p.high) rest
pair_picks (grammar.pair t low high from after rest x i y) = and_then (literal_picks x) (passed t (whole_picks y))

pairs_picks : {free : ℕ} {from : List Token} {ps : List PPair} {rest : List Token} → IsPairs free from ps rest → Picks from (spots_of_pairs ps) rest
pairs_picks (grammar.one p from rest x) = and_then (pair_picks x) (over rest)
pairs_picks (grammar.two t p q from after rest x i y) = and_then (pair_picks x) (passed t (and_then (pair_picks y) (over rest)))

segments_picks : {free : ℕ} {kind : Kind} {from : List Token} {ds : PDecls} {rest : List Token} → IsSegments free kind from ds rest → Picks from (spots_of_decls ds) rest
segments_picks (grammar.last kind u v ns ps from mid rest x i y j) =
    and_then (up_to (and_then (names_picks x) (passed u (pairs_picks y))) (passed v (over rest))) (over rest)
segments_picks (grammar.comma kind u v w ns ps ds from mid after rest x i y j k z) =
    and_then (up_to (and_then (names_picks x) (passed u (pairs_picks y))) (passed v (passed w (over after)))) (segments_picks z)

-- statements and declarations

spots_decls_and : (ds es : PDecls) → spots_of_decls (decls_and ds es) ≡ spots_of_decls ds ++ spots_of_decls es
spots_decls_and no_decls es = refl
spots_decls_and (decls d ds) es = ap (λ spots. spots_of_decl d ++ spots) (spots_decls_and ds es) ∙ sym (append_assoc (spots_of_decl d) (spots_of_decls ds) (spots_of_decls es))

both_decls : (ds es : PDecls) {from rest : List Token} → Picks from (spots_of_decls ds ++ spots_of_decls es) rest → Picks from (spots_of_decls (decls_and ds es)) rest
both_decls ds es {from} {rest} p = subst (λ (spots : List Spot). Picks from spots rest) (sym (spots_decls_and ds es)) p

at_begin : (t : Token) (spot : Spot) {from : List Token} {spots : List Spot} {rest : List Token} → t.spot ≡ spot → Picks from spots rest → Picks (t ∷ from) (spot ∷ spots) rest
at_begin t spot {from} {spots} {rest} e p = subst (λ (s : Spot). Picks (t ∷ from) (s ∷ spots) rest) e (picked t p)

mutual
  stmt_picks : {free d : ℕ} {from : List Token} {s : PStmt} {rest : List Token} → IsStmt free d from s rest → Picks from (spots_of_stmt s) rest
  stmt_picks (grammar.nothing d rest) = over rest
  stmt_picks (grammar.labelled t u n d s from rest k i o x) = named k (passed u (stmt_picks x))
  stmt_picks (grammar.assignment t u n es e d from after rest k x i y) = named k (and_then (subscripts_picks x) (passed u (whole_picks y)))
  stmt_picks (grammar.calling t n es d from rest k x) = named k (actuals_picks x)
  stmt_picks (grammar.going t u n d from rest i x k) = passed t (and_then (to_picks x) (named k (over rest)))
  stmt_picks (grammar.compound t u d b from rest i o x j) = up_to (body_picks x t refl) (passed u (over rest))
  stmt_picks (grammar.one_armed t u c d s from mid rest i o x j y) = passed t (and_then (whole_picks x) (passed u (stmt_picks y)))
  stmt_picks (grammar.two_armed t u v c d a b from mid after rest i o x j y closed k z) =
      passed t (and_then (and_then (whole_picks x) (passed u (stmt_picks y))) (passed v (stmt_picks z)))
  stmt_picks (grammar.looping t u c d s from mid rest i o x j y) = passed t (and_then (whole_picks x) (passed u (stmt_picks y)))
  stmt_picks (grammar.repeating t u c d s from mid rest i o x j y) = passed t (and_then (stmt_picks x) (passed u (whole_picks y)))
  stmt_picks (grammar.counting t u v w x y n a b c d s from step limit mid rest i o k j p l q m r f z) =
      passed t (named k (passed v (and_then (and_then (and_then (whole_picks p) (passed w (whole_picks q))) (passed x (whole_picks r))) (passed y (stmt_picks z)))))
  stmt_picks (grammar.so_often t u c d s from mid rest i o x j y) = passed t (and_then (whole_picks x) (passed u (stmt_picks y)))
  stmt_picks (grammar.choosing t u v w c d ss from mid rest i o x j k y l) =
      passed t (and_then (whole_picks x) (passed u (passed v (up_to (stmts_picks y) (passed w (over rest))))))
  stmt_picks (grammar.processing t u n es task d from mid rest i k x y) = passed t (named k (and_then (actuals_picks x) (task_picks y)))
  stmt_picks (grammar.acting t u v act e d from rest i j x k) = passed t (passed u (up_to (event_picks x) (passed v (over rest))))
  stmt_picks (grammar.writing t u v w x y z n ps es d from mid rest i j k l m p g q c) =
      passed t (passed u (named k (passed w (passed x (and_then (phrases_picks p) (passed y (up_to (items_picks q) (passed z (over rest)))))))))

  stmts_picks : {free d : ℕ} {from : List Token} {ss : PStmts} {rest : List Token} → IsStmts free d from ss rest → Picks from (spots_of_stmts ss) rest
  stmts_picks (grammar.last d s from rest x) = and_then (stmt_picks x) (over rest)
  stmts_picks (grammar.semicolon t d s ss from mid rest x i y) = and_then (stmt_picks x) (passed t (stmts_picks y))

  decl_picks : {free d : ℕ} {from : List Token} {ds : PDecls} {rest : List Token} → IsDecl free d from ds rest → Picks from (spots_of_decls ds) rest
  decl_picks (grammar.values t kind ns d from rest i x) = passed t (and_then (names_picks x) (over rest))
  decl_picks (grammar.printers t ns d from rest i x) = passed t (and_then (files_picks x) (over rest))
  decl_picks (grammar.happenings t ns d from rest i x) = passed t (and_then (names_picks x) (over rest))
  decl_picks (grammar.workers t ns d from rest i x) = passed t (and_then (names_picks x) (over rest))
  decl_picks (grammar.places t ns d from rest i x) = passed t (and_then (names_picks x) (over rest))
  decl_picks (grammar.rows t kind ds d from mid rest x i y) = and_then (typed_picks x) (passed t (segments_picks y))
  decl_picks (grammar.announced t h d from rest x i) = and_then (up_to (heading_picks x) (passed t (over rest))) (over rest)
  decl_picks (grammar.with_body h s d from mid rest x o y) = and_then (and_then (heading_picks x) (stmt_picks y)) (over rest)

  decls_picks : {free d : ℕ} {from : List Token} {ds : PDecls} {rest : List Token} → IsDecls free d from ds rest → Picks from (spots_of_decls ds) rest
  decls_picks (grammar.no_more d rest) = over rest
  decls_picks (grammar.another t d ds es from mid rest x i y) = both_decls ds es (and_then (decl_picks x) (passed t (decls_picks y)))

  body_picks : {free d : ℕ} {spot : Spot} {from : List Token} {b : PBody} {rest : List Token} → IsBody free d spot from b rest → (t : Token) → t.spot ≡ spot →
      Picks (t ∷ from) (spots_of_body b) rest
  body_picks (grammar.declared d spot ds ss from mid rest x y) t e = at_begin t spot e (and_then (decls_picks x) (stmts_picks y))

program_picks : {free : ℕ} {from : List Token} {p : PProgram} {rest : List Token} → IsProgram free from p rest → Picks from (spots_of p) rest
program_picks (whole t u v b from rest i x j k) = up_to (body_picks x t refl) (passed u (passed v (over rest)))

pub in_order : (tokens : List Token) (tree : PProgram) → AreInOrder tokens → Reads tokens tree → IsInOrder tree
in_order tokens tree o r = picks_ascend (program_picks r.is) o
