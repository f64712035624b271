-- Which trees have code where a text is emitted: they fit, and the number of each procedure that a block declares is known.
use Rattle.std.specs.Prelude.{◌≡◌, ℕ, ◌+◌, ◌≤◌, Option, Some, None, List, [], ◌∷◌}
use Rattle.algol_tree.specs.declared.TheConstants.{MOST_PROCEDURES}
use Rattle.algol_tree.specs.declared.token.Spot.{Spot}
use Rattle.algol_tree.specs.declared.tree.Kind.{Kind}
use Rattle.algol_tree.specs.declared.tree.Kind.TheVariants as types
use Rattle.algol_tree.specs.declared.tree.Named.{Named}
use Rattle.algol_tree.specs.declared.tree.PhraseText.{PhraseText}
use Rattle.algol_tree.specs.Plain as tree
use Rattle.algol_tree.specs.Plain.{PExpr, PExprs, PVariable, PPair, PStmt, PStmts, PDecls}
use Rattle.algol_tree.specs.Blocks.{number_at}
use Rattle.algol_tree.specs.Scopes.{Scopes}
use Rattle.algol_places.specs.Numbers.{place_number_of}
use Rattle.algol_paths.specs.Segments.{segment_of}
use Rattle.b67_ops.specs.declared.TheConstants.{MOST_LEVEL}
use Rattle.b67_templates.specs.Contexts.{nothing}
use Rattle.b67_templates.specs.Cells.{procedures}
use Rattle.b67_templates.specs.Fitting as fitting
use Rattle.b67_templates.specs.Fitting.{BlockFits}
use Rattle.b67_emitter.specs.Values.{meanings}
use Rattle.b67_emit_stmt.specs.declared.draft.Known.{Known}
use Rattle.b67_emit_stmt.specs.Places.{Place}

-- ---- the numbers of procedures

-- one more than a number, 0 where there is none
abbrev pub next_to : Option ℕ → ℕ
next_to None = 0
next_to (Some number) = number + 1

-- the number of the procedure whose name stands there, where the names of all stand so: its place among them, from 1
abbrev pub procedure_number_in : List Spot → Spot → ℕ
procedure_number_in spots spot = next_to (place_number_of spots spot)

-- the number that is known of a procedure whose block has this level is that of its segment
pub record IsNumbered (sc : Scopes) (s : Known) (level : ℕ) (n : Named) : Type 0 where
  pub is : segment_of sc.blocks (number_at sc.blocks n.spot) ≡ procedure_number_in s.procedures.now n.spot
  pub few : procedure_number_in s.procedures.now n.spot ≤ MOST_PROCEDURES
  pub inner : level ≤ MOST_LEVEL

-- .. of each that is declared at a level
abbrev pub AreNumbered : Scopes → Known → ℕ → List Named → Type 0
AreNumbered sc s level [] = Unit {0}
AreNumbered sc s level (n ∷ ns) = IsNumbered sc s (level + 1) n × AreNumbered sc s level ns

-- ---- what fits

module _ (sc : Place) (s : Known) (level : ℕ) where
  abbrev pub ReadFits : Kind → Named → Type 0
  ReadFits k n = fitting.ReadFits sc.scopes (meanings s.names.now) level k n

  abbrev pub EmittedPlaceFits : Kind → Named → Type 0
  EmittedPlaceFits k n = fitting.PlaceFits sc.scopes (meanings s.names.now) level k n

  abbrev pub EmittedExprFits : Kind → PExpr → Type 0
  EmittedExprFits k e = fitting.ExprFits sc.scopes (meanings s.names.now) level sc.block k e

  abbrev pub AssignFits : Named → PExpr → Type 0
  AssignFits n e = fitting.AssignFits sc.scopes (meanings s.names.now) level sc.block n e

  abbrev pub LineFits : PExprs → Type 0
  LineFits es = fitting.LineFits sc.scopes (meanings s.names.now) level sc.block es

  abbrev pub WriteFits : List PhraseText → PExprs → Type 0
  WriteFits phrases es = fitting.WriteFits sc.scopes (meanings s.names.now) level sc.block phrases es

  -- a variable or a parameter by name that is read and assigned
  abbrev pub VariableFits : Named → Type 0
  VariableFits n = ReadFits types.Number n × EmittedPlaceFits types.Number n

  abbrev pub ElementAssignFits : Named → PExprs → PExpr → Type 0
  ElementAssignFits n es e = fitting.ElementAssignFits sc.scopes (meanings s.names.now) level sc.block n es e

  -- an assignment to a variable, a result, a parameter by name or an element
  abbrev pub StoreFits : PVariable → PExpr → Type 0
  StoreFits (tree.subscripted n tree.none) e = AssignFits n e
  StoreFits (tree.subscripted n (tree.more i is)) e = ElementAssignFits n (tree.more i is) e

  abbrev pub BoundsFit : List PPair → Type 0
  BoundsFit pairs = fitting.BoundsFit sc.scopes (meanings s.names.now) level sc.block pairs

  abbrev pub DeclsFit : PDecls → Type 0
  DeclsFit ds = fitting.DeclsFit sc.scopes (meanings s.names.now) level sc.block ds

  abbrev pub LabelFits : Named → Type 0
  LabelFits n = fitting.LabelFits sc.scopes (meanings s.names.now) level n

  abbrev pub EventFits : Named → Type 0
  EventFits n = fitting.EventFits sc.scopes (meanings s.names.now) level n

  -- the call that a statement makes
  abbrev pub CallStmtFits : Named → PExprs → Type 0
  CallStmtFits n es = fitting.CallStmtFits sc.scopes (meanings s.names.now) level sc.block n es

  -- the process that a statement starts
  abbrev pub StartFits : Named → PExprs → Option Named → Type 0
  StartFits n es task = fitting.StartFits sc.scopes (meanings s.names.now) level sc.block n es task

-- in the segment that is known, in the text of the block with this number
module _ (scopes : Scopes) (segment : ℕ) (s : Known) where
  abbrev place : ℕ → Place
  place block = record { scopes = scopes; segment = segment; block = block; yields = nothing }

  abbrev mutual
    Fits : ℕ → ℕ → PStmt → Type 0
    Fits level block tree.empty = Unit {0}
    Fits level block (tree.assign v e) = StoreFits (place block) s level v e
    Fits level block (tree.call_of (tree.called n es)) = CallStmtFits (place block) s level n es
    Fits level block (tree.block (tree.body spot tree.no_decls ss)) = AllFit level block ss
    Fits level block (tree.block (tree.body spot (tree.decls d ds) ss)) =
        BlockFits scopes level (tree.decls d ds) ss × (segment ≡ s.segment) × AreNumbered scopes s (level + 1) (procedures (tree.decls d ds))
        × DeclsFit (place (number_at scopes.blocks spot)) s (level + 1) (tree.decls d ds) × AllFit (level + 1) (number_at scopes.blocks spot) ss
    Fits level block (tree.if_then c x) = EmittedExprFits (place block) s level types.Truth c × Fits level block x
    Fits level block (tree.if_else c x y) = EmittedExprFits (place block) s level types.Truth c × Fits level block x × Fits level block y
    Fits level block (tree.while c b) = EmittedExprFits (place block) s level types.Truth c × Fits level block b
    Fits level block (tree.until b c) = Fits level block b × EmittedExprFits (place block) s level types.Truth c
    Fits level block (tree.for v a t l b) =
        VariableFits (place block) s level v × EmittedExprFits (place block) s level types.Number a × EmittedExprFits (place block) s level types.Number t
        × EmittedExprFits (place block) s level types.Number l × Fits level block b
    Fits level block (tree.thru e b) = EmittedExprFits (place block) s level types.Number e × Fits level block b
    Fits level block (tree.case e ss) = EmittedExprFits (place block) s level types.Number e × AllFit level block ss
    Fits level block (tree.write n spot phrases es) = WriteFits (place block) s level phrases es
    Fits level block (tree.label n x) = LabelFits (place block) s level n × Fits level block x
    Fits level block (tree.go_to n) = LabelFits (place block) s level n
    Fits level block (tree.event act e) = EventFits (place block) s level e.name
    Fits level block (tree.process (tree.called n es) task) = StartFits (place block) s level n es task

    AllFit : ℕ → ℕ → PStmts → Type 0
    AllFit level block tree.no_stmts = Unit {0}
    AllFit level block (tree.stmts x xs) = Fits level block x × AllFit level block xs

module _ (sc : Place) (s : Known) (level : ℕ) where
  abbrev pub EmittedStmtFits : PStmt → Type 0
  EmittedStmtFits x = Fits sc.scopes sc.segment s level sc.block x

  abbrev pub EmittedStmtsFit : PStmts → Type 0
  EmittedStmtsFit xs = AllFit sc.scopes sc.segment s level sc.block xs

  -- the procedures, the arrays and the statements of a block at this level
  abbrev pub InsideFits : PDecls → PStmts → Type 0
  InsideFits ds xs = AreNumbered sc.scopes s level (procedures ds) × DeclsFit sc s level ds × EmittedStmtsFit xs
