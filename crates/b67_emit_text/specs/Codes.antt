-- The code of texts, each in a segment of its own.
use Rattle.std.specs.Prelude.{◌≡◌, ℕ, ◌+◌, ◌*◌, ◌<◌, ◌≤◌, Option, Some, None, List, [], length, slice_get}
use Rattle.algol_tree.specs.declared.TheConstants.{MOST_BLOCK_CELLS}
use Rattle.algol_tree.specs.declared.tree.Kind.{Kind}
use Rattle.algol_tree.specs.Plain.{PExpr, PDecls, PStmts}
use Rattle.b67_ops.specs.declared.TheConstants.{MOST_LEVEL}
use Rattle.b67_ops.specs.declared.Couple.{Couple}
use Rattle.b67_ops.specs.declared.Operator.TheVariants as ops
use Rattle.b67_ops.specs.declared.PlainKind.TheVariants as kinds
use Rattle.b67_segment.specs.Operators.{Placed, size}
use Rattle.b67_segment.specs.Syllables.{Spells}
use Rattle.b67_segment.specs.declared.code.Format.{Format}
use Rattle.b67_segment.specs.declared.code.Segment.{Segment}
use Rattle.b67_templates.specs.Cells.{Actual, actuals_in_block}
use Rattle.b67_templates.specs.Fragments.{Has, FragmentGoes}
use Rattle.b67_emit_stmt.specs.declared.draft.Draft.{Draft}
use Rattle.b67_emit_stmt.specs.declared.draft.Known.{Known}
use Rattle.b67_emit_stmt.specs.declared.draft.Label.{Label}
use Rattle.b67_emit_stmt.specs.Actuals.{exprs_of}
use Rattle.b67_emit_stmt.specs.Bodies.{HaveInside, InsideAt, IsSmallBlock, inside_syllables, variables_in}
use Rattle.b67_emit_stmt.specs.Drafts.{AddsStmts, DraftAgrees, Emits, DraftIsAt, IsReady, spots_of}
use Rattle.b67_emit_stmt.specs.Fits.{InsideFits}
use Rattle.b67_emit_stmt.specs.Labels.{label_spots_in}
use Rattle.b67_emit_stmt.specs.Lengths.{celled_in, routines_syllables}
use Rattle.b67_emit_stmt.specs.Places.{Later, Place, RoutinesAt}
use Rattle.b67_emit_text.specs.Entries.{DeclaredLabel, EntryAt, entries_of}

-- ---- the end of a text

-- the index of the result's cell, where there is a result: it lies after the frame's two words and so many parameters
abbrev pub result_index : Option Kind → ℕ → Option ℕ
result_index None parameters = None
result_index (Some kind) parameters = Some (2 + parameters)

-- the result's cell, if there is one, lies among those that a block may have
abbrev pub IsNear : Option ℕ → Type 0
IsNear None = Unit {0}
IsNear (Some index) = index < 2 + MOST_BLOCK_CELLS

abbrev pub result_couple : ℕ → ℕ → Couple
result_couple level index = record { level = level; index = index }

-- EXIT, or the result, whose cell has this index, is given back
abbrev pub EndingAt : Option ℕ → List Placed → ℕ → ℕ → Type 0
EndingAt None ps level at = (over : ℕ) × Has ps level at (ops.Plain kinds.Exit) over
EndingAt (Some index) ps level at = (m : ℕ) × (over : ℕ) × Has ps level at (ops.Valc (result_couple level index)) m × Has ps level m (ops.Plain kinds.Retn) over

-- a cell for the result
abbrev pub zeros_for : Option ℕ → PDecls → ℕ
zeros_for None ds = variables_in ds
zeros_for (Some index) ds = 1 + variables_in ds

-- the text up to its end, and the end
abbrev pub TextEndAt : Place → Later → List Placed → ℕ → Option ℕ → PDecls → PStmts → List Actual → List ℕ → ℕ → Type 0
TextEndAt sc later ps level returned ds ss actuals ats f =
    (e : ℕ) × InsideAt sc later ps level (zeros_for returned ds) ds ss actuals ats f e × EndingAt returned ps level e

abbrev pub text_end_syllables : Known → Option ℕ → PDecls → PStmts → List PExpr → ℕ
text_end_syllables s returned ds ss es = inside_syllables s (zeros_for returned ds) ds ss es + 3

abbrev pub EmitsTextEnd : Known → ℕ → Draft → Draft → Option ℕ → PDecls → PStmts → List PExpr → List ℕ → Type 0
EmitsTextEnd s level before after returned ds ss es ats =
    (sc : Place) (actuals : List Actual) → sc.segment ≡ s.segment → exprs_of actuals ≡ es → InsideFits sc s level ds ss →
    Emits (text_end_syllables s returned ds ss es) before after
    (λ later qs target. TextEndAt sc later qs level returned ds ss actuals ats (size before.out.operators))

-- ---- .. with the code of its actuals before it

abbrev pub TextAt : Place → Later → List Placed → ℕ → Option ℕ → PDecls → PStmts → ℕ → Type 0
TextAt sc later ps level returned ds ss begin =
    (ats : List ℕ) × RoutinesAt sc later ps level (actuals_in_block sc.scopes ds ss) ats
    × TextEndAt sc later ps level returned ds ss (actuals_in_block sc.scopes ds ss) ats begin

abbrev pub text_syllables : Known → Option ℕ → PDecls → PStmts → ℕ
text_syllables s returned ds ss = routines_syllables s (celled_in s ds ss) + text_end_syllables s returned ds ss (celled_in s ds ss)

-- .. was added, and the block begins at this place, after the code of the actuals
pub record EmitsText (s : Known) (level : ℕ) (before after : Draft) (returned : Option ℕ) (ds : PDecls) (ss : PStmts) (begin : ℕ) : Type 0 where
  pub behind : size before.out.operators ≤ begin
  pub near : begin ≤ size before.out.operators + routines_syllables s (celled_in s ds ss)
  pub code : (sc : Place) → sc.segment ≡ s.segment → InsideFits sc s level ds ss →
      Emits (text_syllables s returned ds ss) before after (λ later qs target. TextAt sc later qs level returned ds ss begin)

-- ---- .. and with the table of its labels before that

-- a branch over all that stands before the block, where there is anything; and in the table a branch for each label
pub record WholeAt (sc : Place) (later : Later) (ps : List Placed) (level : ℕ) (returned : Option ℕ) (ds : PDecls) (ss : PStmts) : Type 0 where
  pub begin : ℕ
  pub over : FragmentGoes ps level 0 begin
  pub text : TextAt sc later ps level returned ds ss begin
  pub tables : (number : ℕ) (e : DeclaredLabel) → slice_get (entries_of level ds ss) number ≡ Some e → EntryAt later.labels ps number e

abbrev pub segment_syllables : Known → ℕ → Option ℕ → PDecls → PStmts → ℕ
segment_syllables s level returned ds ss = 3 + 3 * length (entries_of level ds ss) + text_syllables s returned ds ss

abbrev pub EmitsWhole : Known → ℕ → Draft → Draft → Option ℕ → PDecls → PStmts → Type 0
EmitsWhole s level before after returned ds ss =
    (sc : Place) → sc.segment ≡ s.segment → InsideFits sc s level ds ss →
    Emits (segment_syllables s level returned ds ss) before after (λ later qs target. WholeAt sc later qs level returned ds ss)

-- The code of the text can begin in the draft, which has no code yet: its level is set, it fits, and there is room.
pub record CanBegin (s : Known) (level : ℕ) (to : Draft) (returned : Option ℕ) (ds : PDecls) (ss : PStmts) : Type 0 where
  pub cell : IsNear returned
  pub set : DraftIsAt level to
  pub most : level ≤ MOST_LEVEL
  pub start : size to.out.operators ≡ 0
  pub bare : to.exits.items ≡ []
  pub unlabelled : to.labels.items ≡ []
  pub ready : IsReady s to (segment_syllables s level returned ds ss)
  pub few : IsSmallBlock (zeros_for returned ds) ds (celled_in s ds ss)
  pub fits : HaveInside s level ds ss

-- it was added, no exit with it, and the formats and the labels of its statements were noted
pub record AddsWhole (s : Known) (level : ℕ) (before after : Draft) (returned : Option ℕ) (ds : PDecls) (ss : PStmts) : Type 0 where
  pub code : EmitsWhole s level before after returned ds ss
  pub exits : after.exits.items ≡ before.exits.items
  pub lines : AddsStmts before after ss

-- the code of a text in a segment of its own
pub record CodeStands (sc : Place) (later : Later) (segment : Segment) (level : ℕ) (returned : Option ℕ) (ds : PDecls) (ss : PStmts) : Type 0 where
  pub operators : List Placed
  pub spells : Spells operators segment
  pub whole : WholeAt sc later operators level returned ds ss

-- .. wherever what is known later agrees with these formats and with the labels of the text, which stand at the places of its own
pub record CodeIsMade (s : Known) (level : ℕ) (returned : Option ℕ) (ds : PDecls) (ss : PStmts) (segment : Segment) (formats : List Format) : Type 0 where
  pub labels : List Label
  pub spots : spots_of labels ≡ label_spots_in ss
  pub code : (sc : Place) → sc.segment ≡ s.segment → InsideFits sc s level ds ss → (later : Later) → DraftAgrees (record { formats = formats; labels = labels }) later →
      CodeStands sc later segment level returned ds ss
