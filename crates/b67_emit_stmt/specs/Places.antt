-- Where code stands in a program, and the code of constructs that stand there.
use Rattle.std.specs.Prelude.{ℕ, ◌+◌, ℤ, List, ◌++◌, Option}
use Rattle.algol_tree.specs.declared.token.Spot.{Spot}
use Rattle.algol_tree.specs.declared.tree.Kind.{Kind}
use Rattle.algol_tree.specs.declared.tree.Named.{Named}
use Rattle.algol_tree.specs.declared.tree.PhraseText.{PhraseText}
use Rattle.algol_tree.specs.Plain as tree
use Rattle.algol_tree.specs.Plain.{PExpr, PExprs, PVariable, PPair, PStmt, PStmts, PDecl, PDecls}
use Rattle.algol_tree.specs.Scopes.{Scopes}
use Rattle.b67_ops.specs.declared.intrinsic.Intrinsic.{Intrinsic}
use Rattle.b67_segment.specs.Operators.{Placed}
use Rattle.b67_segment.specs.declared.code.Format.{Format}
use Rattle.b67_templates.specs.Contexts.{Yields, nothing, Context}
use Rattle.b67_templates.specs.Fragments.{procedure_controls}
use Rattle.b67_templates.specs.Code as code
use Rattle.b67_templates.specs.Code.{StepSign, routine_controls}
use Rattle.b67_templates.specs.Cells.{Actual}
use Rattle.b67_templates.specs.Events as event
use Rattle.b67_templates.specs.Labels as label

-- the scopes of the program, the number of the segment, that of the block, and what the text gives
pub record Place : Type 0 where
  pub scopes : Scopes
  pub segment : ℕ
  pub block : ℕ
  pub yields : Yields

-- what is known of a program when all its code is there: the formats of its lines, and where the statements after labels stand, by the places
-- of the labels
pub record Later : Type 0 where
  pub formats : List Format
  pub labels : Spot → Option ℕ

-- with that of the program, in a block of this level
abbrev pub context_in : Place → Later → ℕ → Context
context_in sc later level =
    record { formats = later.formats; segment = sc.segment; block = sc.block; level = level; yields = sc.yields; labels = later.labels }

-- one declaration
abbrev pub only : PDecl → PDecls
only d = tree.decls d tree.no_decls

-- a block of this number in the same segment
abbrev pub inside : ℕ → Place → Place
inside block sc = record sc { block = block; yields = nothing }

module _ (sc : Place) (later : Later) (ps : List Placed) (level : ℕ) where
  abbrev pub ReadAt : Named → Kind → ℕ → ℕ → Type 0
  ReadAt n kind f t = code.ReadAt sc.scopes (context_in sc later level) ps level n kind f t

  abbrev pub PlaceAt : Named → Kind → ℕ → ℕ → Type 0
  PlaceAt n kind f t = code.PlaceAt sc.scopes (context_in sc later level) ps level n kind f t

  abbrev pub CallStmtAt : Named → PExprs → ℕ → ℕ → Type 0
  CallStmtAt n es f t = code.CallStmtAt sc.scopes (context_in sc later level) ps level n es f t

  abbrev pub StartAt : Named → PExprs → Option Named → ℕ → ℕ → Type 0
  StartAt n es task f t = code.StartAt sc.scopes (context_in sc later level) ps level n es task f t

  abbrev pub GoToAt : Named → ℕ → ℕ → Type 0
  GoToAt n f t = label.GoToAt sc.scopes (context_in sc later level) ps level n f t

  abbrev pub OnEventsAt : Intrinsic → List Named → ℕ → ℕ → Type 0
  OnEventsAt name ns f t = event.OnEventsAt sc.scopes (context_in sc later level) ps level name ns f t

  abbrev pub EventsMadeAt : List Named → ℕ → ℕ → Type 0
  EventsMadeAt ns f t = event.EventsMadeAt sc.scopes (context_in sc later level) ps level ns f t

  abbrev pub ExprAt : Kind → PExpr → ℕ → ℕ → ℕ → Type 0
  ExprAt kind e f t u = code.ExprAt sc.scopes (context_in sc later level) ps level kind e f t u

  abbrev pub AssignAt : Named → PExpr → ℕ → ℕ → Type 0
  AssignAt n e f t = code.AssignAt sc.scopes (context_in sc later level) ps level n e f t

  abbrev pub ElementAssignAt : Named → PExprs → PExpr → ℕ → ℕ → Type 0
  ElementAssignAt n es e f t = code.ElementAssignAt sc.scopes (context_in sc later level) ps level n es e f t

  -- an assignment to a variable, a result, a parameter by name or an element
  abbrev pub StoredAt : PVariable → PExpr → ℕ → ℕ → Type 0
  StoredAt (tree.subscripted n tree.none) e f t = AssignAt n e f t
  StoredAt (tree.subscripted n (tree.more i is)) e f t = ElementAssignAt n (tree.more i is) e f t

  abbrev pub BoundsAt : List PPair → ℕ → ℕ → Type 0
  BoundsAt pairs f t = code.BoundsAt sc.scopes (context_in sc later level) ps level pairs f t

  abbrev pub ArraysAt : ℕ → List PPair → ℕ → ℕ → Type 0
  ArraysAt many pairs f t = code.ArraysAt sc.scopes (context_in sc later level) ps level many pairs f t

  abbrev pub DeclsAt : PDecls → ℕ → ℕ → Type 0
  DeclsAt ds f t = code.DeclsAt sc.scopes (context_in sc later level) ps level ds f t

  abbrev pub LineAt : PExprs → ℕ → ℕ → Type 0
  LineAt es f t = code.LineAt sc.scopes (context_in sc later level) ps level es f t

  abbrev pub WriteListAt : List PhraseText → PExprs → ℕ → ℕ → Type 0
  WriteListAt phrases es f t = code.WriteAt sc.scopes (context_in sc later level) ps level phrases es f t

  abbrev pub CaseTableAt : ℕ → ℕ → ℕ → Type 0
  CaseTableAt many f table = code.TableAt sc.scopes (context_in sc later level) ps level many f table

  abbrev pub PastAt : ℕ → ℕ → ℕ → Type 0
  PastAt f u to = code.PastAt sc.scopes (context_in sc later level) ps level f u to

  abbrev pub SignedAt : {z : ℤ} → StepSign z → ℕ → ℕ → ℕ → Type 0
  SignedAt sign f u to = code.SignedAt sc.scopes (context_in sc later level) ps level sign f u to

  abbrev pub StepAt : PExpr → ℕ → ℕ → ℕ → Type 0
  StepAt step f u to = code.StepAt sc.scopes (context_in sc later level) ps level step f u to

  abbrev pub MadeAt : ℕ → ℕ → ℕ → Type 0
  MadeAt many f t = code.MadeAt sc.scopes (context_in sc later level) ps level many f t

  -- so many zeros, the control words of procedures in these segments, and of these actuals, whose code begins at these places
  abbrev pub CellsAt : ℕ → List ℕ → List Actual → List ℕ → ℕ → ℕ → Type 0
  CellsAt many segments actuals ats f t =
      code.CellsAt sc.scopes (context_in sc later level) ps level many (procedure_controls level segments ++ routine_controls sc.segment level actuals ats) f t

  -- the code of these actuals of the block, one level further in
  abbrev pub RoutinesAt : List Actual → List ℕ → Type 0
  RoutinesAt actuals ats = code.RoutinesAt sc.scopes (context_in sc later level) ps (level + 1) actuals ats

  abbrev pub ResultAt : List ℕ → ℕ → Type 0
  ResultAt name f = code.ResultAt sc.scopes (context_in sc later level) ps level name f

  abbrev pub StmtAt : PStmt → ℕ → ℕ → ℕ → Type 0
  StmtAt s f t u = code.StmtAt sc.scopes (context_in sc later level) ps level s f t u

  abbrev pub StmtsAt : PStmts → ℕ → ℕ → ℕ → Type 0
  StmtsAt ss f t u = code.StmtsAt sc.scopes (context_in sc later level) ps level ss f t u

  abbrev pub CasesAt : PStmts → ℕ → ℕ → Type 0
  CasesAt ss entry u = code.CasesAt sc.scopes (context_in sc later level) ps level ss entry u
