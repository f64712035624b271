-- The numbers of a program are whole: the magnitude of each number in its expressions is at most the greatest that the machine has. And
-- each call in an expression has actuals, each test of events names as many as it may at least, each array has one dimension or two, and each
-- declaration of arrays a name, as in a tree that was read from a text, where a name by itself reads as a variable.
use Rattle.std.specs.Prelude.{ℕ, ℤ, ◌≡◌, ◌≤◌, Bool, true, false, List, [], ◌∷◌, length}
use Rattle.std.specs.List.{AllByRecursion}
use Rattle.b67_deeds.specs.Deeds.{tests, is_of_several}
use Rattle.algol_tree.specs.declared.tree.Spec.{Spec}
use Rattle.algol_tree.specs.declared.tree.Spec.TheVariants as spec
use Rattle.algol_tree.specs.Plain as tree
use Rattle.algol_tree.specs.Plain.{PExpr, PExprs, PPair, PStmt, PStmts, PDecl, PDecls, PBody, PProgram}
use Rattle.b67_templates.specs.Fragments.{IsWholeNumber}
use Rattle.b67_templates.specs.Code.{AreDimensions}

-- one event is named, or where several may be, one at least
abbrev pub AreNamed : Bool → ℕ → Type 0
AreNamed true many = 1 ≤ many
AreNamed false many = many ≡ 1

abbrev mutual
  pub NumbersWhole : PExpr → Type 0
  NumbersWhole (tree.number z spot) = IsWholeNumber z
  NumbersWhole (tree.variable (tree.subscripted n es)) = AllWhole es
  NumbersWhole (tree.call (tree.called n tree.none)) = ⊥
  NumbersWhole (tree.call (tree.called n (tree.more e es))) = NumbersWhole e × AllWhole es
  NumbersWhole (tree.paren e spot) = NumbersWhole e
  NumbersWhole (tree.plus e spot) = NumbersWhole e
  NumbersWhole (tree.neg e spot) = NumbersWhole e
  NumbersWhole (tree.not e spot) = NumbersWhole e
  NumbersWhole (tree.two op x y) = NumbersWhole x × NumbersWhole y
  NumbersWhole (tree.if c x y spot) = NumbersWhole c × NumbersWhole x × NumbersWhole y
  NumbersWhole (tree.tested x es spot) = AreNamed (is_of_several (tests x)) (length es)
  NumbersWhole _ = Unit {0}

  pub AllWhole : PExprs → Type 0
  AllWhole tree.none = Unit {0}
  AllWhole (tree.more e es) = NumbersWhole e × AllWhole es

-- in bounds; there is one pair or two
abbrev pub BoundsWhole : List PPair → Type 0
BoundsWhole pairs = AreDimensions pairs × AllByRecursion (λ (p : PPair). IsWholeNumber p.low × NumbersWhole p.high) pairs

-- .. in the specification of an array
abbrev pub HaveDimensions : List ℤ → Type 0
HaveDimensions (low ∷ []) = IsWholeNumber low
HaveDimensions (low ∷ low' ∷ []) = IsWholeNumber low × IsWholeNumber low'
HaveDimensions _ = ⊥

abbrev pub SpecWhole : Spec → Type 0
SpecWhole (spec.Arrays kind ns lows) = HaveDimensions lows
SpecWhole _ = Unit {0}

abbrev mutual
  pub StmtWhole : PStmt → Type 0
  StmtWhole (tree.label n s) = StmtWhole s
  StmtWhole (tree.assign (tree.subscripted n es) e) = AllWhole es × NumbersWhole e
  StmtWhole (tree.call_of (tree.called n es)) = AllWhole es
  StmtWhole (tree.block b) = BodyWhole b
  StmtWhole (tree.if_then c x) = NumbersWhole c × StmtWhole x
  StmtWhole (tree.if_else c x y) = NumbersWhole c × StmtWhole x × StmtWhole y
  StmtWhole (tree.while c b) = NumbersWhole c × StmtWhole b
  StmtWhole (tree.until b c) = StmtWhole b × NumbersWhole c
  StmtWhole (tree.for v a s l b) = NumbersWhole a × NumbersWhole s × NumbersWhole l × StmtWhole b
  StmtWhole (tree.thru e b) = NumbersWhole e × StmtWhole b
  StmtWhole (tree.case e ss) = NumbersWhole e × StmtsWhole ss
  StmtWhole (tree.process (tree.called n es) task) = AllWhole es
  StmtWhole (tree.write n spot phrases es) = AllWhole es
  StmtWhole _ = Unit {0}

  pub StmtsWhole : PStmts → Type 0
  StmtsWhole tree.no_stmts = Unit {0}
  StmtsWhole (tree.stmts s ss) = StmtWhole s × StmtsWhole ss

  pub DeclWhole : PDecl → Type 0
  DeclWhole (tree.arrays kind ns pairs) = BoundsWhole pairs × (1 ≤ length ns)
  DeclWhole (tree.procedure h s) = AllByRecursion SpecWhole h.specs × StmtWhole s
  DeclWhole _ = Unit {0}

  pub DeclsWhole : PDecls → Type 0
  DeclsWhole tree.no_decls = Unit {0}
  DeclsWhole (tree.decls d ds) = DeclWhole d × DeclsWhole ds

  pub BodyWhole : PBody → Type 0
  BodyWhole (tree.body spot ds ss) = DeclsWhole ds × StmtsWhole ss

abbrev pub HasWholeNumbers : PProgram → Type 0
HasWholeNumbers (tree.program b) = BodyWhole b
