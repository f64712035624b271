-- The typing judgement of the language: which kind an expression is of where it stands, and which statements, declarations and programs are typed. The rules
-- (UnknownName, DeclaredTwice, WrongType, WrongCount, NotAssignable, WriteList, LineTooWide) say at which places a tree is refused; here stands what holds where none is.
use Rattle.std.specs.Prelude.{◌≡◌, ◌≤◌, ◌==◌, ◌⊎◌, ℕ, Bool, true, List, [], ◌∷◌, length, Option, Some, None}
use Rattle.std.specs.List.{All, AllByRecursion, list_any}
use Rattle.b67_deeds.specs.Deeds.{tests}
use Rattle.algol_tree.specs.declared.tree.Heading.{Heading}
use Rattle.algol_tree.specs.declared.tree.Kind.{Kind}
use Rattle.algol_tree.specs.declared.tree.Kind.TheVariants as types
use Rattle.algol_tree.specs.declared.tree.Named.{Named}
use Rattle.algol_tree.specs.Accepted.{Accepted}
use Rattle.algol_tree.specs.Ascending.{IsInOrder}
use Rattle.algol_tree.specs.Blocks.{Block, Begin, of_statement, of_procedure, number_at, around, blocks_of_program}
use Rattle.algol_tree.specs.Classes as class
use Rattle.algol_tree.specs.Classes.{Class, Formal, is_simple, is_array, is_event}
use Rattle.algol_tree.specs.Counted.{exprs_count}
use Rattle.algol_tree.specs.Names.{unknown_names, declared_twice}
use Rattle.algol_tree.specs.Plain as tree
use Rattle.algol_tree.specs.Plain.{PExpr, PExprs, PPair, PStmt, PStmts, PDecl, PDecls, PProgram}
use Rattle.algol_tree.specs.Sites.{Site, declaration}
use Rattle.algol_tree.specs.Sorts.{Declared, class_in, formals_of}
use Rattle.algol_tree.specs.Surroundings.{Surroundings, class_of, knowing, knowing_all, inside, inside_procedure, outermost}
use Rattle.algol_tree.specs.Types.{given_by, taken_by, told_by}
use Rattle.b67_segment.specs.declared.code.Phrase.{Phrase}
use Rattle.b67_templates.specs.Code as code
use Rattle.b67_templates.specs.Code.{AreParts, AreDimensions, numbers_in}
use Rattle.b67_templates.specs.Events.{names_of, AreSoMany}
use Rattle.b67_templates.specs.Fitting.{PhrasesFit}
use Rattle.b67_templates.specs.Fragments.{IsWholeNumber}
use Rattle.b67_fitting.specs.Texts.{HasPlainTexts}
use Rattle.b67_fitting.specs.Wholes.{SpecWhole, HasWholeNumbers}

-- ---- headings

-- each parameter is specified as a simple one, as an array or as an event
abbrev pub HeadingSpecified : Heading → Type 0
HeadingSpecified h =
    All (λ (n : Named). (is_simple (class_in h.specs n.name) ≡ true) ⊎ ((is_array (class_in h.specs n.name) ≡ true) ⊎ (is_event (class_in h.specs n.name) ≡ true))) h.params

-- .. and the lower bounds of each array are whole, and one or two
abbrev pub SpecsWhole : Heading → Type 0
SpecsWhole h = AllByRecursion SpecWhole h.specs

-- ---- names

-- an event or a task
abbrev pub IsEventful : Class → Type 0
IsEventful c = (c ≡ class.event) ⊎ (c ≡ class.task)

-- the actual of an array: the name by itself of an array with such elements and as many bounds
abbrev pub IsArrayActual : Surroundings → Formal → PExpr → Type 0
IsArrayActual a f (tree.variable (tree.subscripted n tree.none)) = (k : Kind) × (rank : ℕ) × (f.class ≡ class.array k rank) × (class_of a n ≡ class.array k rank)
IsArrayActual a f _ = ⊥

-- .. of an event: the name by itself of an event
abbrev pub IsEventActual : Surroundings → Formal → PExpr → Type 0
IsEventActual a f (tree.variable (tree.subscripted n tree.none)) = (f.class ≡ class.event) × (class_of a n ≡ class.event)
IsEventActual a f _ = ⊥

-- ---- expressions

module _ (a : Surroundings) where
  -- the name of a simple variable or parameter of this kind
  abbrev pub IsOf : Kind → Named → Type 0
  IsOf k n = class_of a n ≡ class.simple k

  -- the name of a typed procedure without parameters
  abbrev pub IsFunction : Kind → Named → Type 0
  IsFunction k n = (h : Heading) × (class_of a n ≡ class.procedure h) × (h.kind ≡ Some k) × (h.params ≡ [])

  -- the name of an array with elements of this kind and as many bounds as these subscripts
  abbrev pub HasElements : Kind → Named → PExprs → Type 0
  HasElements k n es = class_of a n ≡ class.array k (exprs_count es)

  -- names of events and of tasks
  abbrev pub AreEventful : List Named → Type 0
  AreEventful ns = AllByRecursion (λ (n : Named). IsEventful (class_of a n)) ns

  abbrev mutual
    -- an expression of this kind
    pub TypedExpr : Kind → PExpr → Type 0
    TypedExpr k (tree.number z spot) = (k ≡ types.Number) × IsWholeNumber z
    TypedExpr k (tree.truth b spot) = k ≡ types.Truth
    TypedExpr k (tree.variable (tree.subscripted n tree.none)) = IsOf k n ⊎ IsFunction k n
    TypedExpr k (tree.variable (tree.subscripted n (tree.more e es))) = HasElements k n (tree.more e es) × TypedLine (tree.more e es)
    TypedExpr k (tree.paren e spot) = TypedExpr k e
    TypedExpr k (tree.plus e spot) = (k ≡ types.Number) × TypedExpr types.Number e
    TypedExpr k (tree.neg e spot) = (k ≡ types.Number) × TypedExpr types.Number e
    TypedExpr k (tree.not e spot) = (k ≡ types.Truth) × TypedExpr types.Truth e
    TypedExpr k (tree.two op x y) = (k ≡ given_by op) × TypedExpr (taken_by op) x × TypedExpr (taken_by op) y
    TypedExpr k (tree.if c x y spot) = TypedExpr types.Truth c × TypedExpr k x × TypedExpr k y
    TypedExpr k (tree.call (tree.called n es)) =
        (h : Heading) × (class_of a n ≡ class.procedure h) × HeadingSpecified h × (h.kind ≡ Some k) × TypedActuals (formals_of h) es
    TypedExpr k (tree.tested x es spot) = (k ≡ told_by x) × AreSoMany (tests x) (names_of es) × AreEventful (names_of es)

    -- actuals of these parameters: of simple ones values, and names of arrays and of events
    pub TypedActuals : List Formal → PExprs → Type 0
    TypedActuals [] tree.none = Unit {0}
    TypedActuals (f ∷ fs) (tree.more e es) =
        (((k : Kind) × (f.class ≡ class.simple k) × TypedExpr k e) ⊎ (IsArrayActual a f e ⊎ IsEventActual a f e)) × TypedActuals fs es
    TypedActuals _ _ = ⊥

    -- expressions that are numbers: subscripts, or what a line prints
    pub TypedLine : PExprs → Type 0
    TypedLine tree.none = Unit {0}
    TypedLine (tree.more e es) = TypedExpr types.Number e × TypedLine es

  -- an actual of this parameter
  abbrev pub TypedActual : Formal → PExpr → Type 0
  TypedActual f e = ((k : Kind) × (f.class ≡ class.simple k) × TypedExpr k e) ⊎ (IsArrayActual a f e ⊎ IsEventActual a f e)

  -- a call that a statement makes
  abbrev pub IsCalled : Named → PExprs → Type 0
  IsCalled n es = (h : Heading) × (class_of a n ≡ class.procedure h) × HeadingSpecified h × TypedActuals (formals_of h) es

  -- a task, where there is one
  abbrev pub IsTasked : Option Named → Type 0
  IsTasked None = Unit {0}
  IsTasked (Some n) = class_of a n ≡ class.task

  -- the start of a process, of a procedure without a result
  abbrev pub IsStartOf : Named → PExprs → Option Named → Type 0
  IsStartOf n es task =
      (h : Heading) × (class_of a n ≡ class.procedure h) × HeadingSpecified h × TypedActuals (formals_of h) es × (h.kind ≡ None) × IsTasked task

-- bounds of an array: the lower ones are whole, and the upper ones numbers
abbrev pub TypedPairs : Surroundings → List PPair → Type 0
TypedPairs a [] = Unit {0}
TypedPairs a (p ∷ ps) = IsWholeNumber p.low × TypedExpr a types.Number p.high × TypedPairs a ps

-- ---- statements and declarations

module _ (blocks : List Block) where
  -- each name that a part uses is known there, and none that it declares has been declared in its block
  pub record IsDeclared (x : Site) : Type 0 where
    pub known : unknown_names x ≡ []
    pub once : declared_twice blocks x ≡ []

  -- the place is inside the procedure
  abbrev pub is_around : Heading → Surroundings → Bool
  is_around h a = list_any (λ (i : ℕ). i == number_at blocks h.name.spot) (a.block ∷ around blocks a.block)

  -- the typed procedure around
  abbrev pub IsResult : Surroundings → Kind → Named → Type 0
  IsResult a k n = (h : Heading) × (class_of a n ≡ class.procedure h) × (h.kind ≡ Some k) × (is_around h a ≡ true)

  -- on the left stands a variable, or the typed procedure around
  abbrev pub IsLeftSide : Surroundings → Kind → Named → Type 0
  IsLeftSide a k n = IsOf a k n ⊎ IsResult a k n

  abbrev mutual
    pub TypedStmt : Begin → Surroundings → PStmt → Type 0
    TypedStmt begin a tree.empty = Unit {0}
    TypedStmt begin a (tree.assign (tree.subscripted n tree.none) e) = (k : Kind) × IsLeftSide a k n × TypedExpr a k e
    TypedStmt begin a (tree.assign (tree.subscripted n (tree.more i is)) e) = (k : Kind) × HasElements a k n (tree.more i is) × TypedLine a (tree.more i is) × TypedExpr a k e
    TypedStmt begin a (tree.call_of (tree.called n es)) = IsCalled a n es
    TypedStmt begin a (tree.block (tree.body spot ds ss)) =
        TypedDecls (inside blocks begin (tree.body spot ds ss) a) (inside blocks begin (tree.body spot ds ss) a).known ds
        × TypedStmts (knowing_all blocks ds (inside blocks begin (tree.body spot ds ss) a)) ss
    TypedStmt begin a (tree.if_then c x) = TypedExpr a types.Truth c × TypedStmt of_statement a x
    TypedStmt begin a (tree.if_else c x y) = TypedExpr a types.Truth c × TypedStmt of_statement a x × TypedStmt of_statement a y
    TypedStmt begin a (tree.while c b) = TypedExpr a types.Truth c × TypedStmt of_statement a b
    TypedStmt begin a (tree.until b c) = TypedStmt of_statement a b × TypedExpr a types.Truth c
    TypedStmt begin a (tree.for v x s l b) =
        IsOf a types.Number v × TypedExpr a types.Number x × TypedExpr a types.Number s × TypedExpr a types.Number l × TypedStmt of_statement a b
    TypedStmt begin a (tree.thru e b) = TypedExpr a types.Number e × TypedStmt of_statement a b
    TypedStmt begin a (tree.case e ss) = TypedExpr a types.Number e × TypedStmts a ss
    TypedStmt begin a (tree.write n spot phrases es) =
        PhrasesFit phrases × ((parts : List Phrase) → AreParts phrases parts → numbers_in parts ≡ code.exprs_count es) × TypedLine a es
    TypedStmt begin a (tree.label n s) = (class_of a n ≡ class.label) × TypedStmt of_statement a s
    TypedStmt begin a (tree.go_to n) = class_of a n ≡ class.label
    TypedStmt begin a (tree.event act e) = IsEventful (class_of a e.name)
    TypedStmt begin a (tree.process (tree.called n es) named) = IsStartOf a n es named

    pub TypedStmts : Surroundings → PStmts → Type 0
    TypedStmts a tree.no_stmts = Unit {0}
    TypedStmts a (tree.stmts s ss) = TypedStmt of_statement a s × TypedStmts a ss

    -- the place is after the declaration; these are known at the begin of its block
    pub TypedDecl : Surroundings → List Declared → PDecl → Type 0
    TypedDecl a first (tree.simple kind ns) = Unit {0}
    TypedDecl a first (tree.files ns) = Unit {0}
    TypedDecl a first (tree.arrays kind ns pairs) = AreDimensions pairs × TypedPairs (record a { known = first }) pairs × (1 ≤ length ns)
    TypedDecl a first (tree.forward h) = HeadingSpecified h
    TypedDecl a first (tree.procedure h s) = HeadingSpecified h × TypedStmt of_procedure (inside_procedure blocks h a) s × SpecsWhole h
    TypedDecl a first _ = Unit {0}

    -- the place is in front of them
    pub TypedDecls : Surroundings → List Declared → PDecls → Type 0
    TypedDecls a first tree.no_decls = Unit {0}
    TypedDecls a first (tree.decls d ds) =
        IsDeclared (record { part = declaration d ds; around = a }) × TypedDecl (knowing blocks d ds a) first d × TypedDecls (knowing blocks d ds a) first ds

-- ---- programs

abbrev pub TypedProgram : PProgram → Type 0
TypedProgram (tree.program (tree.body spot ds ss)) =
    TypedDecls (blocks_of_program (tree.program (tree.body spot ds ss))) outermost [] ds
    × TypedStmts (blocks_of_program (tree.program (tree.body spot ds ss))) (knowing_all (blocks_of_program (tree.program (tree.body spot ds ss))) ds outermost) ss

abbrev pub AcceptedProgramsAreTyped : Type 0
AcceptedProgramsAreTyped = (p : PProgram) → Accepted p → IsInOrder p → HasWholeNumbers p → HasPlainTexts p → TypedProgram p
