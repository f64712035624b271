-- The code of blocks.
use Rattle.std.specs.Prelude.{◌≡◌, ℕ, ◌+◌, ◌<◌, ◌≤◌, List, map, length}
use Rattle.algol_tree.specs.declared.TheConstants.{MOST_BLOCK_CELLS}
use Rattle.algol_tree.specs.declared.tree.Named.{Named}
use Rattle.algol_tree.specs.Plain.{PExpr, PDecls, PStmts}
use Rattle.b67_ops.specs.declared.Operator.TheVariants as ops
use Rattle.b67_ops.specs.declared.PlainKind.TheVariants as kinds
use Rattle.b67_segment.specs.Operators.{Placed, size}
use Rattle.b67_segment.specs.Building.{Built, level_set}
use Rattle.b67_templates.specs.Cells.{Actual, variables, procedures, control_segments, made_of}
use Rattle.b67_templates.specs.Code as code
use Rattle.b67_templates.specs.Code.{routine_controls}
use Rattle.b67_templates.specs.Emitting.{Emitted}
use Rattle.b67_emitter.specs.Values.{meanings}
use Rattle.b67_templates.specs.Fragments.{Has, FragmentGoes, EntryAt, ControlsAt}
use Rattle.b67_emit_stmt.specs.declared.draft.Draft.{Draft}
use Rattle.b67_emit_stmt.specs.declared.draft.Known.{Known}
use Rattle.b67_emit_stmt.specs.Drafts.{Emits}
use Rattle.b67_emit_stmt.specs.Fits.{AreNumbered, DeclsFit, InsideFits, procedure_number_in}
use Rattle.b67_emit_stmt.specs.Places.{Later, Place, CellsAt, RoutinesAt, DeclsAt, StmtsAt, context_in}
use Rattle.b67_emit_stmt.specs.Actuals.{exprs_of, HaveValues}
use Rattle.b67_emit_stmt.specs.Lengths.{routines_syllables, cells_syllables, begin_syllables, stmts_syllables, celled_in}

-- ---- cells

-- how many simple variables are declared
abbrev pub variables_in : PDecls → ℕ
variables_in ds = length (variables ds)

-- so many cells of 0 and those of procedures, of actuals, of arrays, of events and of tasks are no more than a block may have
abbrev pub IsSmallBlock : ℕ → PDecls → List PExpr → Type 0
IsSmallBlock many ds es = many + length (procedures ds) + length es + length (made_of ds) ≤ MOST_BLOCK_CELLS

-- the numbers that are known of procedures
abbrev pub procedure_numbers_of : Known → List Named → List ℕ
procedure_numbers_of s ns = map (λ (n : Named). procedure_number_in s.procedures.now n.spot) ns

-- these are the actuals of a block that have cells, each of which has a value in it, and its code a level
pub record AreActuals (sc : Place) (s : Known) (level : ℕ) (es : List PExpr) (actuals : List Actual) : Type 0 where
  pub same : exprs_of actuals ≡ es
  pub values : HaveValues sc.scopes (meanings s.names.now) level sc.block actuals

-- the code of these actuals was appended, and begins at these places
abbrev pub CodesEmitted : Known → ℕ → Built → Built → List PExpr → List ℕ → Type 0
CodesEmitted s level before after es ats =
    (sc : Place) (later : Later) (actuals : List Actual) → AreActuals sc s level es actuals →
    Emitted before after (λ qs. code.RoutinesAt sc.scopes (context_in sc later level) qs (level_set before) actuals ats)

-- .. was added to a draft, one level further in
abbrev pub EmitsRoutines : Known → ℕ → Draft → Draft → List PExpr → List ℕ → Type 0
EmitsRoutines s level before after es ats =
    (sc : Place) (actuals : List Actual) → AreActuals sc s level es actuals →
    Emits (routines_syllables s es) before after (λ later qs target. RoutinesAt sc later qs level actuals ats)

-- the control words of actuals whose code begins at these places
abbrev pub WordsEmitted : Known → ℕ → Built → Built → List PExpr → List ℕ → Type 0
WordsEmitted s level before after es ats =
    (actuals : List Actual) → exprs_of actuals ≡ es →
    Emitted before after (λ qs. ControlsAt qs level (routine_controls s.segment level actuals ats) (size before.operators) (size after.operators))

abbrev pub EmitsCells : Known → ℕ → Draft → Draft → ℕ → PDecls → List PExpr → List ℕ → Type 0
EmitsCells s level before after many ds es ats =
    (sc : Place) (actuals : List Actual) → sc.segment ≡ s.segment → exprs_of actuals ≡ es → AreNumbered sc.scopes s level (procedures ds) →
    Emits (cells_syllables s many ds es) before after
    (λ later qs target. CellsAt sc later qs level many (control_segments sc.scopes ds) actuals ats (size before.out.operators) (size after.out.operators))

-- ---- what a block begins with

-- the cells, and after them the arrays
abbrev pub BeginAt : Place → Later → List Placed → ℕ → ℕ → PDecls → List Actual → List ℕ → ℕ → ℕ → Type 0
BeginAt sc later ps level many ds actuals ats f t =
    (b : ℕ) × CellsAt sc later ps level many (control_segments sc.scopes ds) actuals ats f b × DeclsAt sc later ps level ds b t

abbrev pub EmitsBegin : Known → ℕ → Draft → Draft → ℕ → PDecls → List PExpr → List ℕ → Type 0
EmitsBegin s level before after many ds es ats =
    (sc : Place) (actuals : List Actual) → sc.segment ≡ s.segment → exprs_of actuals ≡ es → AreNumbered sc.scopes s level (procedures ds) → DeclsFit sc s level ds →
    Emits (begin_syllables s many ds es) before after
    (λ later qs target. BeginAt sc later qs level many ds actuals ats (size before.out.operators) (size after.out.operators))

-- ---- a block up to its end

-- the cells, the arrays, and the statements, whose exits go to the place after them
abbrev pub InsideAt : Place → Later → List Placed → ℕ → ℕ → PDecls → PStmts → List Actual → List ℕ → ℕ → ℕ → Type 0
InsideAt sc later ps level many ds ss actuals ats f e =
    (b : ℕ) × (d : ℕ) × CellsAt sc later ps level many (control_segments sc.scopes ds) actuals ats f b × DeclsAt sc later ps level ds b d
    × StmtsAt sc later ps level ss d e e

abbrev pub inside_syllables : Known → ℕ → PDecls → PStmts → List PExpr → ℕ
inside_syllables s many ds ss es = begin_syllables s many ds es + stmts_syllables s ss

abbrev pub EmitsInside : Known → ℕ → Draft → Draft → ℕ → PDecls → PStmts → List PExpr → List ℕ → Type 0
EmitsInside s level before after many ds ss es ats =
    (sc : Place) (actuals : List Actual) → sc.segment ≡ s.segment → exprs_of actuals ≡ es → InsideFits sc s level ds ss →
    Emits (inside_syllables s many ds ss es) before after
    (λ later qs target. InsideAt sc later qs level many ds ss actuals ats (size before.out.operators) (size after.out.operators))

-- .. and EXIT
abbrev pub EndedAt : Place → Later → List Placed → ℕ → PDecls → PStmts → List Actual → List ℕ → ℕ → ℕ → Type 0
EndedAt sc later ps level ds ss actuals ats f t =
    (e : ℕ) × InsideAt sc later ps level (variables_in ds) ds ss actuals ats f e × Has ps level e (ops.Plain kinds.Exit) t

abbrev pub ended_syllables : Known → PDecls → PStmts → List PExpr → ℕ
ended_syllables s ds ss es = inside_syllables s (variables_in ds) ds ss es + 1

-- .. was added, and begins at this place
pub record EmitsEnded (s : Known) (level : ℕ) (before after : Draft) (ds : PDecls) (ss : PStmts) (es : List PExpr) (ats : List ℕ) (begin : ℕ) : Type 0 where
  pub place : begin ≡ size before.out.operators
  pub within : begin < size after.out.operators
  pub code : (sc : Place) (actuals : List Actual) → sc.segment ≡ s.segment → exprs_of actuals ≡ es → InsideFits sc s level ds ss →
      Emits (ended_syllables s ds ss es) before after
      (λ later qs target. EndedAt sc later qs level ds ss actuals ats (size before.out.operators) (size after.out.operators))

-- ---- a block within another

-- the cells, the arrays, the statements, EXIT
abbrev pub BlockAt : Place → Later → List Placed → ℕ → PDecls → PStmts → ℕ → Type 0
BlockAt sc later ps level ds ss at = code.InnerAt sc.scopes (context_in sc later level) ps level ds ss at

-- the code of its actuals, the block up to its end, and EXIT
abbrev pub block_syllables : Known → PDecls → PStmts → ℕ
block_syllables s ds ss = routines_syllables s (celled_in s ds ss) + ended_syllables s ds ss (celled_in s ds ss)

-- the code of a block at a level, which begins at this place: the code of its actuals stands before that
abbrev pub EmitsBlock : Known → ℕ → Draft → Draft → PDecls → PStmts → ℕ → Type 0
EmitsBlock s level before after ds ss begin =
    (sc : Place) → sc.segment ≡ s.segment → InsideFits sc s level ds ss →
    Emits (block_syllables s ds ss) before after (λ later qs target. BlockAt sc later qs level ds ss begin)

-- it fits in some place of the segment that is known
abbrev pub HaveInside : Known → ℕ → PDecls → PStmts → Type 0
HaveInside s level ds ss = (sc : Place) × (sc.segment ≡ s.segment) × InsideFits sc s level ds ss

-- .. one level further in than the one that is set
abbrev pub HaveFitInside : Known → Draft → PDecls → PStmts → Type 0
HaveFitInside s d ds ss = HaveInside s (level_set d.out + 1) ds ss

-- a branch, the code of a block, and its entry
abbrev pub inner_syllables : Known → PDecls → PStmts → ℕ
inner_syllables s ds ss = 3 + block_syllables s ds ss + 14

-- the code of a block one level further in, which stands before its entry
abbrev pub InnerAt : Place → Later → List Placed → ℕ → PDecls → PStmts → ℕ → ℕ → Type 0
InnerAt sc later ps level ds ss f t =
    (o : ℕ) × (at : ℕ) × FragmentGoes ps level f o × BlockAt sc later ps (level + 1) ds ss at × EntryAt ps level sc.segment at o t

abbrev pub EmitsInner : Known → Draft → Draft → PDecls → PStmts → Type 0
EmitsInner s before after ds ss =
    (sc : Place) → sc.segment ≡ s.segment → InsideFits sc s (level_set before.out + 1) ds ss →
    Emits (inner_syllables s ds ss) before after
    (λ later qs target. InnerAt sc later qs (level_set before.out) ds ss (size before.out.operators) (size after.out.operators))
