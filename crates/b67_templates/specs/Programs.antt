-- Where the code of a block and of a program stands.
use Rattle.std.specs.Prelude.{◌≡◌, ◌⊎◌, ℕ, ◌+◌, ◌<◌, true, List, length, filter, Option, Some, slice_get}
use Rattle.algol_tree.specs.declared.token.Spot.{Spot}
use Rattle.algol_tree.specs.Plain.{PProgram}
use Rattle.algol_tree.specs.Blocks.{Block, block_numbered}
use Rattle.algol_tree.specs.Cells.{level_of}
use Rattle.algol_tree.specs.Scopes.{Scopes, scopes_of}
use Rattle.algol_meaning.specs.Statements.{items_of}
use Rattle.algol_paths.specs.Segments.{is_procedure, segment_of}
use Rattle.b67_segment.specs.Operators.{Placed}
use Rattle.b67_segment.specs.Syllables.{Spells}
use Rattle.b67_segment.specs.declared.code.Code.{Code}
use Rattle.b67_segment.specs.declared.code.Segment.{Segment}
use Rattle.b67_templates.specs.Contexts.{yields_of, Context}
use Rattle.b67_templates.specs.Fragments.{FragmentGoes}
use Rattle.b67_templates.specs.Cells.{zero_cells, actuals_of}
use Rattle.b67_templates.specs.Labels.{label_number, LabelAt}
use Rattle.b67_templates.specs.Code.{RoutinesAt, CellsAt, control_pcws, KAt}

module _ (sc : Scopes) (context : Context) (ps : List Placed) (level : ℕ) where
  -- A branch over what is entered elsewhere, where there is any; the cells that the block begins with, and what it has to do. The code of its
  -- actuals stands at these places.
  pub record BodyAt (b : Block) (from : ℕ) : Type 0 where
    pub begin : ℕ
    pub start : ℕ
    pub ats : List ℕ
    pub over : FragmentGoes ps level from begin
    pub routines : RoutinesAt sc context ps (level + 1) (actuals_of sc b) ats
    pub cells : CellsAt sc context ps level (length (zero_cells b)) (control_pcws sc context.segment level b.decls (actuals_of sc b) ats) begin start
    pub items : KAt sc context ps level (items_of b) start

-- the operators of each segment, by its number; and where the statements after labels stand, by the places of the labels before them
pub record Texts : Type 0 where
  pub placed : ℕ → List Placed
  pub labels : Spot → Option ℕ

-- the operators of the segment in which the text of a block stands
abbrev pub text_of : Texts → Scopes → ℕ → List Placed
text_of texts sc j = texts.placed (segment_of sc.blocks j)

-- the context of the text of a block
abbrev pub context_of : Code → Texts → Scopes → ℕ → Context
context_of code texts sc j =
    record {
      formats = code.formats;
      segment = segment_of sc.blocks j;
      block = j;
      level = level_of (block_numbered sc.blocks j);
      yields = yields_of (block_numbered sc.blocks j).result;
      labels = texts.labels;
    }

-- The code of a program has a segment for the program's text and one for each procedure, in the order of the text. In it stands, from the
-- start, the code of the outer block or of the procedure's, and in its table a branch for each label of a block in its text.
pub record ProgramAt (code : Code) (p : PProgram) : Type 0 where
  pub many : length code.segments ≡ 1 + length (filter is_procedure (scopes_of p).blocks)
  pub texts : Texts
  pub spells : (k : ℕ) (segment : Segment) → slice_get code.segments k ≡ Some segment → Spells (texts.placed k) segment
  pub bodies : (j : ℕ) → j < length (scopes_of p).blocks → (j ≡ 0) ⊎ (is_procedure (block_numbered (scopes_of p).blocks j) ≡ true) →
      BodyAt (scopes_of p) (context_of code texts (scopes_of p) j) (text_of texts (scopes_of p) j) (level_of (block_numbered (scopes_of p).blocks j)) (block_numbered (scopes_of p).blocks j) 0
  pub labels :
      (j number : ℕ) (name : List ℕ) → j < length (scopes_of p).blocks → label_number (scopes_of p) j name ≡ Some number →
      LabelAt (scopes_of p) (context_of code texts (scopes_of p) j) (text_of texts (scopes_of p) j) (level_of (block_numbered (scopes_of p).blocks j)) (block_numbered (scopes_of p).blocks j)
      name number
