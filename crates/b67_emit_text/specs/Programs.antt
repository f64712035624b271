-- The code of a program: which trees have it, and what it is.
use Rattle.std.specs.Prelude.{◌≡◌, ℕ, ◌+◌, ◌*◌, ◌≤◌, List, ◌++◌, length, Option, Some, None, slice_get}
use Rattle.algol_tree.specs.declared.TheConstants.{MOST_BLOCK_CELLS}
use Rattle.algol_tree.specs.declared.token.Spot.{Spot}
use Rattle.algol_tree.specs.declared.tree.Kind.{Kind}
use Rattle.algol_tree.specs.Blocks.{block_numbered, number_at}
use Rattle.algol_tree.specs.Scopes.{Scopes}
use Rattle.algol_paths.specs.Segments.{segment_of}
use Rattle.b67_emitter.specs.declared.names.Names.{Names}
use Rattle.b67_ops.specs.declared.Operator.TheVariants as ops
use Rattle.b67_ops.specs.declared.PlainKind.TheVariants as kinds
use Rattle.b67_ops.specs.declared.TheConstants.{MOST_LEVEL}
use Rattle.b67_segment.specs.declared.TheConstants.{MOST_SEGMENT_SYLLABLES}
use Rattle.b67_segment.specs.Operators.{Placed}
use Rattle.b67_segment.specs.Syllables.{Spells}
use Rattle.b67_segment.specs.declared.code.Format.{Format}
use Rattle.b67_segment.specs.declared.code.Segment.{Segment}
use Rattle.b67_templates.specs.Contexts.{yields_of, Context}
use Rattle.b67_templates.specs.Fragments.{Has, FragmentGoes}
use Rattle.b67_templates.specs.Cells.{Simple, parameter_cells, variables, result_cells_of, procedures, actuals_in_block, made_of}
use Rattle.b67_templates.specs.Code.{CellsAt, DeclsAt, StmtsAt, ResultAt, RoutinesAt, control_pcws}
use Rattle.b67_templates.specs.Fitting.{DeclsFit, StmtsFit}
use Rattle.b67_emitter.specs.Values.{meanings}
use Rattle.b67_emit_text.specs.Entries.{DeclaredLabel, EntryAt, entries_of}
use Rattle.b67_emit_text.specs.Texts.{Text}

-- the cells of 0 that a text begins with: its result and its simple variables
abbrev pub zeros_of : Text → List Simple
zeros_of t = result_cells_of t.result t.name ++ variables t.decls

-- the number of the text's block
abbrev pub block_of_text : Scopes → Text → ℕ
block_of_text sc t = number_at sc.blocks t.spot

-- What is wanted of the text with this number: it is that of its block and has its segment's number, its block's first cells are those of
-- its parameters, its parts fit, its block has a level that the machine has and no more cells than a block may have, and its code has room
-- in a segment.
pub record IsDue (sc : Scopes) (known : Names) (number : ℕ) (t : Text) : Type 0 where
  pub segment : segment_of sc.blocks (block_of_text sc t) ≡ number
  pub named : (block_numbered sc.blocks (block_of_text sc t)).name ≡ t.name
  pub result : (block_numbered sc.blocks (block_of_text sc t)).result ≡ t.result
  pub parameters : length (parameter_cells sc (block_numbered sc.blocks (block_of_text sc t))) ≡ t.parameters
  pub level : t.level ≤ MOST_LEVEL
  pub few : t.parameters + length (zeros_of t) + length (procedures t.decls) + length (actuals_in_block sc t.decls t.stmts) + length (made_of t.decls) ≤ MOST_BLOCK_CELLS
  pub decls : DeclsFit sc (meanings known) t.level (block_of_text sc t) t.decls
  pub fits : StmtsFit sc (meanings known) t.level (block_of_text sc t) t.stmts
  pub room : 24 * t.tokens + 48 ≤ MOST_SEGMENT_SYLLABLES

-- .. of each text, numbered from 0
abbrev pub AreDue : Scopes → Names → List Text → Type 0
AreDue sc known ts = (number : ℕ) (t : Text) → slice_get ts number ≡ Some t → IsDue sc known number t

-- the end of a text: EXIT, or where it has a result, that is given back
abbrev pub EndAt : Scopes → Context → List Placed → ℕ → Option Kind → List ℕ → ℕ → Type 0
EndAt sc context ps level None name at = (over : ℕ) × Has ps level at (ops.Plain kinds.Exit) over
EndAt sc context ps level (Some kind) name at = ResultAt sc context ps level name at

-- where the code of a text stands in the segment of its own; the statements after labels stand there, by the places of the labels
abbrev pub context_of : Scopes → List Format → (Spot → Option ℕ) → Text → Context
context_of sc formats labels t =
    record {
      formats = formats;
      segment = segment_of sc.blocks (block_of_text sc t);
      block = block_of_text sc t;
      level = t.level;
      yields = yields_of t.result;
      labels = labels;
    }

-- The code of its actuals, one level further in, and past it its cells, its arrays and events, its statements, whose exits go to the end, and
-- the end.
abbrev pub TextAt : Scopes → List Format → (Spot → Option ℕ) → List Placed → Text → Type 0
TextAt sc formats labels ps t =
    (begin : ℕ) × (ats : List ℕ) × (b : ℕ) × (d : ℕ) × (e : ℕ) × FragmentGoes ps t.level 0 begin
    × RoutinesAt sc (context_of sc formats labels t) ps (t.level + 1) (actuals_in_block sc t.decls t.stmts) ats
    × CellsAt sc (context_of sc formats labels t) ps t.level (length (zeros_of t))
    (control_pcws sc (segment_of sc.blocks (block_of_text sc t)) t.level t.decls (actuals_in_block sc t.decls t.stmts) ats) begin b
    × DeclsAt sc (context_of sc formats labels t) ps t.level t.decls b d
    × StmtsAt sc (context_of sc formats labels t) ps t.level t.stmts d e e
    × EndAt sc (context_of sc formats labels t) ps t.level t.result t.name e

-- in the table a branch for each label that a block of the text declares
abbrev pub LabelTableAt : (Spot → Option ℕ) → List Placed → Text → Type 0
LabelTableAt labels ps t = (number : ℕ) (e : DeclaredLabel) → slice_get (entries_of t.level t.decls t.stmts) number ≡ Some e → EntryAt labels ps number e

-- The segments are those of the texts. In each stands the text's code.
pub record Coded (sc : Scopes) (formats : List Format) (segments : List Segment) (ts : List Text) : Type 0 where
  pub many : length segments ≡ length ts
  -- where the statements after labels stand, by the places of the labels
  pub labels : Spot → Option ℕ
  -- by the number of a segment
  pub placed : ℕ → List Placed
  pub spells : (number : ℕ) (segment : Segment) → slice_get segments number ≡ Some segment → Spells (placed number) segment
  pub code : (number : ℕ) (t : Text) → slice_get ts number ≡ Some t → TextAt sc formats labels (placed number) t
  pub tables : (number : ℕ) (t : Text) → slice_get ts number ≡ Some t → LabelTableAt labels (placed number) t

-- each segment has at most 24 syllables for each token of its text, and 48 more
abbrev pub AreShort : List Segment → List Text → Type 0
AreShort segments ts =
    (number : ℕ) (segment : Segment) (t : Text) → slice_get segments number ≡ Some segment → slice_get ts number ≡ Some t →
    6 * length segment.words ≤ 24 * t.tokens + 48
