-- The labels that the blocks of a text declare, and the table of branches to the statements after them, with which the code of the text begins.
use Rattle.std.specs.Prelude.{◌≡◌, ℕ, ◌+◌, ◌≤◌, if◌then◌else◌, List, [], ◌∷◌, ◌++◌, map, length, Option, Some, None, slice_get}
use Rattle.algol_tree.specs.declared.token.Spot.{Spot}
use Rattle.algol_tree.specs.declared.tree.Named.{Named}
use Rattle.algol_tree.specs.Image.{stmts}
use Rattle.algol_tree.specs.Blocks.{same_spot}
use Rattle.algol_tree.specs.Plain as tree
use Rattle.algol_tree.specs.Plain.{PStmt, PStmts, PDecls}
use Rattle.b67_ops.specs.declared.Operator.{Operator}
use Rattle.b67_ops.specs.declared.Operator.TheVariants.{Branch}
use Rattle.b67_ops.specs.declared.BranchKind.TheVariants.{Brun}
use Rattle.b67_ops.specs.declared.TheConstants.{MOST_LEVEL, OUTER_LEVEL}
use Rattle.b67_segment.specs.Operators.{Placed, StandsAmong, size}
use Rattle.b67_segment.specs.Building.{Built}
use Rattle.b67_templates.specs.Fragments.{BranchAt, Has}
use Rattle.b67_templates.specs.Labels.{label_in, labels_in, table_place}
use Rattle.b67_emit_stmt.specs.declared.draft.Label.{Label}
use Rattle.b67_emit_text.specs.declared.entries.Declared.{Declared}

-- ---- which labels are declared

-- a label that a block declares: the level of the block, the name, and the block's own statements, before one of which it stands
pub record DeclaredLabel : Type 0 where
  pub level : ℕ
  pub name : Named
  pub stmts : PStmts

abbrev pub own_entries : ℕ → PStmts → List Named → List DeclaredLabel
own_entries level ss ns = map (λ (n : Named). record { level = level; name = n; stmts = ss }) ns

abbrev mutual
  -- those of the blocks within a statement at a level, in the order of the text
  pub entries_in_stmt : ℕ → PStmt → List DeclaredLabel
  entries_in_stmt level (tree.label n s) = entries_in_stmt level s
  entries_in_stmt level (tree.block (tree.body spot tree.no_decls ss)) = entries_in_stmts level ss
  entries_in_stmt level (tree.block (tree.body spot (tree.decls d ds) ss)) =
      own_entries (level + 1) ss (labels_in (tree.decls d ds)) ++ entries_in_stmts (level + 1) ss
  entries_in_stmt level (tree.if_then c x) = entries_in_stmt level x
  entries_in_stmt level (tree.if_else c x y) = entries_in_stmt level x ++ entries_in_stmt level y
  entries_in_stmt level (tree.while c b) = entries_in_stmt level b
  entries_in_stmt level (tree.until b c) = entries_in_stmt level b
  entries_in_stmt level (tree.for v a s l b) = entries_in_stmt level b
  entries_in_stmt level (tree.thru e b) = entries_in_stmt level b
  entries_in_stmt level (tree.case e ss) = entries_in_stmts level ss
  entries_in_stmt level _ = []

  pub entries_in_stmts : ℕ → PStmts → List DeclaredLabel
  entries_in_stmts level tree.no_stmts = []
  entries_in_stmts level (tree.stmts s ss) = entries_in_stmt level s ++ entries_in_stmts level ss

-- those of a text whose block has this level, with these declarations and statements: the block's own come first
abbrev pub entries_of : ℕ → PDecls → PStmts → List DeclaredLabel
entries_of level ds ss = own_entries level ss (labels_in ds) ++ entries_in_stmts level ss

-- each inner block has a level that the machine has
abbrev mutual
  pub AreLow : ℕ → PStmt → Type 0
  AreLow level (tree.label n s) = AreLow level s
  AreLow level (tree.block (tree.body spot tree.no_decls ss)) = AllLow level ss
  AreLow level (tree.block (tree.body spot (tree.decls d ds) ss)) = (level + 1 ≤ MOST_LEVEL) × AllLow (level + 1) ss
  AreLow level (tree.if_then c x) = AreLow level x
  AreLow level (tree.if_else c x y) = AreLow level x × AreLow level y
  AreLow level (tree.while c b) = AreLow level b
  AreLow level (tree.until b c) = AreLow level b
  AreLow level (tree.for v a s l b) = AreLow level b
  AreLow level (tree.thru e b) = AreLow level b
  AreLow level (tree.case e ss) = AllLow level ss
  AreLow level _ = Unit {0}

  pub AllLow : ℕ → PStmts → Type 0
  AllLow level tree.no_stmts = Unit {0}
  AllLow level (tree.stmts s ss) = AreLow level s × AllLow level ss

-- .. as it is gathered
abbrev pub entry_of : Declared → DeclaredLabel
entry_of d = record { level = d.level; name = d.name.now; stmts = stmts d.stmts.now }

-- the level of its block is one that the machine has
abbrev pub IsLeveled : DeclaredLabel → Type 0
IsLeveled e = (OUTER_LEVEL ≤ e.level) × (e.level ≤ MOST_LEVEL)

-- ---- where they lead

-- where the statement begins before which the label at this place stands
abbrev pub label_place_in : List Label → Spot → Option ℕ
label_place_in [] spot = None
label_place_in (l ∷ ls) spot = if same_spot l.spot spot then Some l.place else label_place_in ls spot

abbrev pub place_there : List Label → Option Named → Option ℕ
place_there ls None = None
place_there ls (Some n) = label_place_in ls n.spot

-- .. before which the label of an entry's name stands in the list of its block
abbrev pub leads : List Label → DeclaredLabel → Option ℕ
leads ls e = place_there ls (label_in e.stmts e.name.name)

-- The branch of an entry with this number leads to the statement before which the label of that name stands in the list of its block, if there
-- is one.
abbrev pub EntryAt : (Spot → Option ℕ) → List Placed → ℕ → DeclaredLabel → Type 0
EntryAt labels ps number e =
    (label : Named) → label_in e.stmts e.name.name ≡ Some label →
    (target : ℕ) × (next : ℕ) × (labels label.spot ≡ Some target) × BranchAt ps e.level Brun (table_place number) target next

-- ---- the table, before its branches are aimed

-- a branch for each of these, at the level of its block, from a place on
abbrev pub PendingAt : List Placed → ℕ → List DeclaredLabel → Type 0
PendingAt ps from [] = Unit {0}
PendingAt ps from (e ∷ es) = Has ps e.level from (Branch Brun 0) (from + 3) × PendingAt ps (from + 3) es

-- a branch at the start, at this level, and the table after it
abbrev pub HeadAt : List Placed → ℕ → List DeclaredLabel → Type 0
HeadAt ps level es = Has ps level 0 (Branch Brun 0) 3 × PendingAt ps (table_place 0) es

-- ---- .. and after that

-- the branch at the start goes to this place, and the branch of each entry to where it leads, if that is known; all after the table is as it was
pub record HeadAimed (es : List DeclaredLabel) (begin : ℕ) (labels : List Label) (before after : Built) : Type 0 where
  pub level : after.level ≡ before.level
  pub place : size after.operators ≡ size before.operators
  pub others :
      (at level next : ℕ) (op : Operator) → table_place (length es) ≤ at → StandsAmong before.operators at level op next → StandsAmong after.operators at level op next
  pub over : (level : ℕ) → Has before.operators level 0 (Branch Brun 0) 3 → Has after.operators level 0 (Branch Brun begin) 3
  pub entries :
      (number : ℕ) (e : DeclaredLabel) (target : ℕ) → slice_get es number ≡ Some e → leads labels e ≡ Some target →
      Has after.operators e.level (table_place number) (Branch Brun target) (table_place number + 3)
