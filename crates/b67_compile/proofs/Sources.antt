-- What is known of a tree that some text is, from the mere fact that there is such a text: each of these facts has one proof at most.
use Rattle.std.proofs.Common.{ap, ℕ, Bool, true, false, List, [], ◌∷◌, length}
use Rattle.std.proofs.Props.{props}
use Rattle.std.proofs.Math.Logic.{∥∥₁_elim}
use Rattle.std.specs.Coded.{×_prop, Π_prop, Unit-prop, le_prop}
use Rattle.std.specs.List.{AllByRecursion-prop}
use Rattle.b67_deeds.specs.Deeds.{tests, is_of_several}
use Rattle.algol_tree.specs.declared.tree.PhraseText.{PhraseText}
use Rattle.algol_tree.specs.declared.tree.PhraseText.TheVariants as phrase
use Rattle.algol_tree.specs.declared.tree.Spec.{Spec}
use Rattle.algol_tree.specs.declared.tree.Spec.TheVariants as spec
use Rattle.algol_tree.specs.Accepted.{Accepted}
use Rattle.algol_tree.specs.Plain as tree
use Rattle.algol_tree.specs.Plain.{PExpr, PExprs, PPair, PStmt, PStmts, PDecl, PDecls, PBody, PProgram}
use Rattle.algol_front.proofs.Ordered.{IsSource}
use Rattle.b67_templates.specs.Names.{StmtNamed, StmtsNamed, DeclNamed, DeclsNamed, HasNames}
use Rattle.b67_fitting.specs.Texts.{PhrasePlain, StmtPlain, StmtsPlain, DeclPlain, DeclsPlain, HasPlainTexts}
use Rattle.b67_fitting.specs.Wholes.{AreNamed, NumbersWhole, AllWhole, BoundsWhole, SpecWhole, StmtWhole, StmtsWhole, DeclWhole, DeclsWhole, HasWholeNumbers}
use Rattle.b67_fitting.proofs.NamesRead.{sources_named}
use Rattle.b67_fitting.proofs.Numbered.{sources_whole}
use Rattle.b67_fitting.proofs.Written.{sources_plain}
use Rattle.b67_templates.specs.Code.{AreDimensions}
use Rattle.b67_templates.specs.Fragments.{IsWholeNumber}

accepted_once : (p : PProgram) → IsProp (Accepted p)
accepted_once p = Prim.hlevel props

-- ---- names

mutual
  stmt_named : (s : PStmt) → IsProp (StmtNamed s)
  stmt_named (tree.label n s) = stmt_named s
  stmt_named (tree.block (tree.body spot ds ss)) = ×_prop (decls_named ds) (stmts_named ss)
  stmt_named (tree.if_then c x) = stmt_named x
  stmt_named (tree.if_else c x y) = ×_prop (stmt_named x) (stmt_named y)
  stmt_named (tree.while c b) = stmt_named b
  stmt_named (tree.until b c) = stmt_named b
  stmt_named (tree.for v a s l b) = stmt_named b
  stmt_named (tree.thru e b) = stmt_named b
  stmt_named (tree.case e ss) = stmts_named ss
  stmt_named _ = Unit-prop

  stmts_named : (ss : PStmts) → IsProp (StmtsNamed ss)
  stmts_named tree.no_stmts = Unit-prop
  stmts_named (tree.stmts s ss) = ×_prop (stmt_named s) (stmts_named ss)

  decl_named : (d : PDecl) → IsProp (DeclNamed d)
  decl_named (tree.procedure h s) = ×_prop (Prim.hlevel props) (stmt_named s)
  decl_named _ = Unit-prop

  decls_named : (ds : PDecls) → IsProp (DeclsNamed ds)
  decls_named tree.no_decls = Unit-prop
  decls_named (tree.decls d ds) = ×_prop (decl_named d) (decls_named ds)

-- ---- texts

phrase_plain : (p : PhraseText) → IsProp (PhrasePlain p)
phrase_plain (phrase.Text bytes) = Π_prop (λ k. Π_prop (λ d. Π_prop (λ lo. Prim.hlevel props)))
phrase_plain (phrase.Word word) = Unit-prop

mutual
  stmt_plain : (s : PStmt) → IsProp (StmtPlain s)
  stmt_plain (tree.label n s) = stmt_plain s
  stmt_plain (tree.block (tree.body spot ds ss)) = ×_prop (decls_plain ds) (stmts_plain ss)
  stmt_plain (tree.if_then c x) = stmt_plain x
  stmt_plain (tree.if_else c x y) = ×_prop (stmt_plain x) (stmt_plain y)
  stmt_plain (tree.while c b) = stmt_plain b
  stmt_plain (tree.until b c) = stmt_plain b
  stmt_plain (tree.for v a s l b) = stmt_plain b
  stmt_plain (tree.thru e b) = stmt_plain b
  stmt_plain (tree.case e ss) = stmts_plain ss
  stmt_plain (tree.write n spot phrases es) = AllByRecursion-prop PhrasePlain phrase_plain phrases
  stmt_plain _ = Unit-prop

  stmts_plain : (ss : PStmts) → IsProp (StmtsPlain ss)
  stmts_plain tree.no_stmts = Unit-prop
  stmts_plain (tree.stmts s ss) = ×_prop (stmt_plain s) (stmts_plain ss)

  decl_plain : (d : PDecl) → IsProp (DeclPlain d)
  decl_plain (tree.procedure h s) = stmt_plain s
  decl_plain _ = Unit-prop

  decls_plain : (ds : PDecls) → IsProp (DeclsPlain ds)
  decls_plain tree.no_decls = Unit-prop
  decls_plain (tree.decls d ds) = ×_prop (decl_plain d) (decls_plain ds)

-- ---- numbers

three : {A B C : Type 0} → IsProp A → IsProp B → IsProp C → IsProp (A × B × C)
three {A} {B} {C} a b c x y =
    ap (λ (t : A × (B × C)). let u : A × B × C = (t.0, t.1.0, t.1.1) in u) (×_prop a (×_prop b c) (x.0, (x.1, x.2)) (y.0, (y.1, y.2)))

four : {A B C D : Type 0} → IsProp A → IsProp B → IsProp C → IsProp D → IsProp (A × B × C × D)
four {A} {B} {C} {D} a b c d x y =
    ap (λ (t : A × (B × (C × D))). let u : A × B × C × D = (t.0, t.1.0, t.1.1.0, t.1.1.1) in u)
    (×_prop a (×_prop b (×_prop c d)) (x.0, (x.1, (x.2, x.3))) (y.0, (y.1, (y.2, y.3))))

named_once : (several : Bool) (many : ℕ) → IsProp (AreNamed several many)
named_once true many = le_prop
named_once false many = Prim.hlevel props

mutual
  numbers_whole : (e : PExpr) → IsProp (NumbersWhole e)
  numbers_whole (tree.number z spot) = le_prop
  numbers_whole (tree.variable (tree.subscripted n es)) = all_whole es
  numbers_whole (tree.call (tree.called n tree.none)) = λ x y. absurd x
  numbers_whole (tree.call (tree.called n (tree.more e es))) = ×_prop (numbers_whole e) (all_whole es)
  numbers_whole (tree.paren e spot) = numbers_whole e
  numbers_whole (tree.plus e spot) = numbers_whole e
  numbers_whole (tree.neg e spot) = numbers_whole e
  numbers_whole (tree.not e spot) = numbers_whole e
  numbers_whole (tree.two op x y) = ×_prop (numbers_whole x) (numbers_whole y)
  numbers_whole (tree.if c x y spot) = three (numbers_whole c) (numbers_whole x) (numbers_whole y)
  numbers_whole (tree.tested x es spot) = named_once (is_of_several (tests x)) (length es)
  numbers_whole _ = Unit-prop

  all_whole : (es : PExprs) → IsProp (AllWhole es)
  all_whole tree.none = Unit-prop
  all_whole (tree.more e es) = ×_prop (numbers_whole e) (all_whole es)

dimensions : (pairs : List PPair) → IsProp (AreDimensions pairs)
dimensions [] = λ x y. absurd x
dimensions (p ∷ []) = Unit-prop
dimensions (p ∷ q ∷ []) = Unit-prop
dimensions (p ∷ q ∷ r ∷ pairs) = λ x y. absurd x

bounds_whole : (pairs : List PPair) → IsProp (BoundsWhole pairs)
bounds_whole pairs =
    ×_prop (dimensions pairs) (AllByRecursion-prop (λ (p : PPair). IsWholeNumber p.low × NumbersWhole p.high) (λ p. ×_prop le_prop (numbers_whole p.high)) pairs)

spec_whole : (s : Spec) → IsProp (SpecWhole s)
spec_whole (spec.Arrays kind ns []) = λ x y. absurd x
spec_whole (spec.Arrays kind ns (low ∷ [])) = le_prop
spec_whole (spec.Arrays kind ns (low ∷ other ∷ [])) = ×_prop le_prop le_prop
spec_whole (spec.Arrays kind ns (low ∷ other ∷ third ∷ lows)) = λ x y. absurd x
spec_whole (spec.Simple kind ns) = Unit-prop
spec_whole (spec.Events ns) = Unit-prop

mutual
  stmt_whole : (s : PStmt) → IsProp (StmtWhole s)
  stmt_whole (tree.label n s) = stmt_whole s
  stmt_whole (tree.assign (tree.subscripted n es) e) = ×_prop (all_whole es) (numbers_whole e)
  stmt_whole (tree.call_of (tree.called n es)) = all_whole es
  stmt_whole (tree.block (tree.body spot ds ss)) = ×_prop (decls_whole ds) (stmts_whole ss)
  stmt_whole (tree.if_then c x) = ×_prop (numbers_whole c) (stmt_whole x)
  stmt_whole (tree.if_else c x y) = three (numbers_whole c) (stmt_whole x) (stmt_whole y)
  stmt_whole (tree.while c b) = ×_prop (numbers_whole c) (stmt_whole b)
  stmt_whole (tree.until b c) = ×_prop (stmt_whole b) (numbers_whole c)
  stmt_whole (tree.for v a s l b) = four (numbers_whole a) (numbers_whole s) (numbers_whole l) (stmt_whole b)
  stmt_whole (tree.thru e b) = ×_prop (numbers_whole e) (stmt_whole b)
  stmt_whole (tree.case e ss) = ×_prop (numbers_whole e) (stmts_whole ss)
  stmt_whole (tree.process (tree.called n es) task) = all_whole es
  stmt_whole (tree.write n spot phrases es) = all_whole es
  stmt_whole _ = Unit-prop

  stmts_whole : (ss : PStmts) → IsProp (StmtsWhole ss)
  stmts_whole tree.no_stmts = Unit-prop
  stmts_whole (tree.stmts s ss) = ×_prop (stmt_whole s) (stmts_whole ss)

  decl_whole : (d : PDecl) → IsProp (DeclWhole d)
  decl_whole (tree.arrays kind ns pairs) = ×_prop (bounds_whole pairs) le_prop
  decl_whole (tree.procedure h s) = ×_prop (AllByRecursion-prop SpecWhole spec_whole h.specs) (stmt_whole s)
  decl_whole _ = Unit-prop

  decls_whole : (ds : PDecls) → IsProp (DeclsWhole ds)
  decls_whole tree.no_decls = Unit-prop
  decls_whole (tree.decls d ds) = ×_prop (decl_whole d) (decls_whole ds)

-- ---- of a source

pub source_accepted : (p : PProgram) → IsSource p → Accepted p
source_accepted p some = ∥∥₁_elim some (accepted_once p) (λ s. s.1.accepted)

pub source_named : (p : PProgram) → IsSource p → HasNames p
source_named (tree.program (tree.body spot ds ss)) some =
    ∥∥₁_elim some (×_prop (decls_named ds) (stmts_named ss)) (λ s. sources_named s.0 (tree.program (tree.body spot ds ss)) s.1)

pub source_plain : (p : PProgram) → IsSource p → HasPlainTexts p
source_plain (tree.program (tree.body spot ds ss)) some =
    ∥∥₁_elim some (×_prop (decls_plain ds) (stmts_plain ss)) (λ s. sources_plain s.0 (tree.program (tree.body spot ds ss)) s.1)

pub source_whole : (p : PProgram) → IsSource p → HasWholeNumbers p
source_whole (tree.program (tree.body spot ds ss)) some =
    ∥∥₁_elim some (×_prop (decls_whole ds) (stmts_whole ss)) (λ s. sources_whole s.0 (tree.program (tree.body spot ds ss)) s.1)
