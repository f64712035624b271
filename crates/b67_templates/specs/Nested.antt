-- How the blocks of an accepted program lie in one another.
use Rattle.std.specs.Prelude.{◌≡◌, ℕ, ◌+◌, ◌<◌, ◌≤◌, true, List, [], ◌∷◌, length, None, Some, slice_get}
use Rattle.algol_tree.specs.declared.TheConstants.{MOST_BLOCK_CELLS, MOST_LEVEL, MOST_PROCEDURES, MOST_SEGMENT_TOKENS}
use Rattle.algol_tree.specs.declared.tree.Kind.{Kind}
use Rattle.algol_tree.specs.declared.tree.Named.{Named}
use Rattle.algol_tree.specs.Accepted.{Accepted}
use Rattle.algol_tree.specs.Ascending.{IsInOrder}
use Rattle.algol_tree.specs.Sorts as sort
use Rattle.algol_tree.specs.Sorts.{Parameter, is_variable}
use Rattle.algol_tree.specs.Blocks.{Block, block_numbered, number_at, around}
use Rattle.algol_tree.specs.Cells.{level_of}
use Rattle.algol_tree.specs.Plain.{PProgram}
use Rattle.algol_tree.specs.Scopes.{Scopes, scopes_of}
use Rattle.algol_meaning.specs.Statements.{items_of}
use Rattle.algol_paths.specs.Arrays.{Shape}
use Rattle.algol_paths.specs.Laws.{ItemsKeepToText}
use Rattle.algol_paths.specs.Segments.{is_procedure, procedures_before, segment_tokens}
use Rattle.b67_templates.specs.Cells as wants
use Rattle.b67_templates.specs.Cells.{Simple, parameter_cells, simple_cells, found_from, procedures, actuals_of, made_of}
use Rattle.b67_templates.specs.Names.{HasNames}

-- the block of a procedure that the block with this number declares stands in it
pub record IsDeclared (sc : Scopes) (j : ℕ) (declared : Named) : Type 0 where
  pub known : number_at sc.blocks declared.spot < length sc.blocks
  pub around_is : around sc.blocks (number_at sc.blocks declared.spot) ≡ j ∷ around sc.blocks j
  pub procedure : is_procedure (block_numbered sc.blocks (number_at sc.blocks declared.spot)) ≡ true

-- The cell of a parameter by value or by name has its kind, that of an array its shape; that of an event stands for it.
pub data CellIsTold (p : Parameter) (cell : Simple) : Type 0 where
  by_value : (kind : Kind) → cell.wanted ≡ wants.value kind → is_variable p.sort ≡ true → CellIsTold p cell
  by_name : (kind : Kind) → cell.wanted ≡ wants.by_name kind → p.sort ≡ sort.by_name → CellIsTold p cell
  an_array : (shape : Shape) → cell.wanted ≡ wants.array shape → p.sort ≡ sort.formal_array shape.lows → CellIsTold p cell
  an_event : cell.wanted ≡ wants.event → p.sort ≡ sort.formal_event → CellIsTold p cell

abbrev pub AreTold : List Parameter → List Simple → Type 0
AreTold [] [] = Unit {0}
AreTold (p ∷ ps) (c ∷ cells) = (p.name ≡ c.name) × CellIsTold p c × AreTold ps cells
AreTold _ _ = ⊥

-- Each parameter of a block is simple, an array or an event, and has a cell. Where the block gives a result, no parameter has the block's name
-- (rule DeclaredTwice), so the first cell with that name is the result's.
pub record AreParameters (sc : Scopes) (b : Block) : Type 0 where
  pub told : AreTold b.parameters (parameter_cells sc b)
  pub apart : (kind : Kind) → b.result ≡ Some kind → found_from 0 (parameter_cells sc b) b.name ≡ None

-- Each block's text keeps to it: its names are seen from there, those in bounds from the block around it, but for parameters, and the
-- blocks in it stand in it. Its parameters are specified, it has no more cells than a block may have (rule TooManyCells), and a
-- level that the machine has (rule TooManyLevels).
pub record IsText (sc : Scopes) (j : ℕ) : Type 0 where
  pub items : ItemsKeepToText sc j (items_of (block_numbered sc.blocks j))
  pub parameters : AreParameters sc (block_numbered sc.blocks j)
  pub few :
      length (simple_cells sc (block_numbered sc.blocks j)) + length (procedures (block_numbered sc.blocks j).decls)
      + length (actuals_of sc (block_numbered sc.blocks j)) + length (made_of (block_numbered sc.blocks j).decls)
      ≤ MOST_BLOCK_CELLS
  pub low : level_of (block_numbered sc.blocks j) ≤ MOST_LEVEL
  pub procedure : (k : ℕ) (declared : Named) → slice_get (procedures ((block_numbered sc.blocks j).decls)) k ≡ Some declared → IsDeclared sc j declared

-- The outermost block is the first, and no other is around it. There are no more procedures than a program may have (rule
-- TooManyProcedures).
pub record AreNested (sc : Scopes) : Type 0 where
  pub some : 0 < length sc.blocks
  pub outer : (block_numbered sc.blocks 0).outer ≡ []
  pub nameless : (block_numbered sc.blocks 0).name ≡ []
  pub untyped : (block_numbered sc.blocks 0).result ≡ None
  pub each : (j : ℕ) → j < length sc.blocks → IsText sc j
  pub procedures_few : (j : ℕ) → procedures_before sc.blocks j ≤ MOST_PROCEDURES

-- The text of each segment has no more tokens than a segment may have (rule SegmentTooLong).
pub record LiesNested (p : PProgram) : Type 0 where
  pub nested : AreNested (scopes_of p)
  pub short : (k : ℕ) → segment_tokens p k ≤ MOST_SEGMENT_TOKENS

abbrev pub ProgramsLieNested : Type 0
ProgramsLieNested = (p : PProgram) → Accepted p → IsInOrder p → HasNames p → LiesNested p
