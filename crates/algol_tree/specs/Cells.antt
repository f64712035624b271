-- The cells of a block and where they lie in its frame. A block's level is 2 for the outer one and one more than that of the block
-- around it for any other. A cell's couple is the level of its block and an index, from 2 on.
use Rattle.std.specs.Prelude.{ℕ, ◌+◌, ◌==◌, ◌&&◌, if◌then◌else◌, not, Bool, false, List, [], ◌∷◌, ◌++◌, map, filter, length, is_some, Option, Some, None}
use Rattle.std.specs.List.{flat_map}
use Rattle.b67_limits.specs.declared.TheConstants.{OUTER_LEVEL}
use Rattle.algol_tree.specs.declared.token.Spot.{Spot}
use Rattle.algol_tree.specs.declared.tree.Named.{Named}
use Rattle.algol_tree.specs.declared.tree.Heading.{Heading}
use Rattle.algol_tree.specs.Plain as tree
use Rattle.algol_tree.specs.Plain.{PExpr, PDecl, name_alone}
use Rattle.algol_tree.specs.Classes.{Formal, is_simple}
use Rattle.algol_tree.specs.Blocks.{Block, same_spot, block_numbered, number_at}
use Rattle.algol_tree.specs.Surroundings.{Surroundings, class_of}
use Rattle.algol_tree.specs.Sites as site
use Rattle.algol_tree.specs.Sites.{Part, Site}

-- ---- levels

-- the level of a block with so many blocks around it
abbrev pub level_at : ℕ → ℕ
level_at depth = depth + OUTER_LEVEL

abbrev pub level_of : Block → ℕ
level_of b = level_at (length b.outer)

-- ---- the place of an expression: that of its first token

abbrev pub first_spot : PExpr → Spot
first_spot (tree.number z spot) = spot
first_spot (tree.truth b spot) = spot
first_spot (tree.variable (tree.subscripted n es)) = n.spot
first_spot (tree.call (tree.called n es)) = n.spot
first_spot (tree.tested test es spot) = spot
first_spot (tree.paren e spot) = spot
first_spot (tree.plus e spot) = spot
first_spot (tree.neg e spot) = spot
first_spot (tree.not e spot) = spot
first_spot (tree.two op x y) = first_spot x
first_spot (tree.if c x y spot) = spot

-- ---- cells

-- what a cell holds, in the order of a frame
pub data Content : Type 0 where
  parameter : Content
  result : Content  -- of a typed procedure
  variable : Content  -- a simple variable
  procedure : Content
  actual : Content  -- the code of an actual
  made : Content  -- an array, an event or a task: an action makes it

abbrev pub content_number : Content → ℕ
content_number parameter = 0
content_number result = 1
content_number variable = 2
content_number procedure = 3
content_number actual = 4
content_number made = 5

-- a cell: its block, where it stands in the text, and what it holds
pub record Cell : Type 0 where
  pub block : ℕ
  pub spot : Spot
  pub content : Content

abbrev pub cells_for : ℕ → Content → List Named → List Cell
cells_for block content ns = map (λ (n : Named). record { block = block; spot = n.spot; content = content }) ns

-- The name of a simple variable or of a simple parameter stands for itself; for any other actual of a name parameter the block in which
-- it stands has a cell.
abbrev pub is_simple_name : Option Named → Surroundings → Bool
is_simple_name None a = false
is_simple_name (Some n) a = is_simple (class_of a n)

abbrev pub formal_is_by_name : Option Formal → Bool
formal_is_by_name None = false
formal_is_by_name (Some f) = is_simple f.class && not f.by_value

abbrev pub has_cell : PExpr → Option Formal → Surroundings → Bool
has_cell e f a = formal_is_by_name f && not (is_simple_name (name_alone e) a)

module _ (blocks : List Block) where
  -- the result of a typed procedure stands at its name
  abbrev pub result_cells : Heading → List Cell
  result_cells h = if is_some h.kind then cells_for (number_at blocks h.name.spot) result (h.name ∷ []) else []

  abbrev pub cells_of_decl : PDecl → ℕ → List Cell
  cells_of_decl (tree.simple kind ns) block = cells_for block variable ns
  cells_of_decl (tree.events ns) block = cells_for block made ns
  cells_of_decl (tree.tasks ns) block = cells_for block made ns
  cells_of_decl (tree.arrays kind ns pairs) block = cells_for block made ns
  cells_of_decl (tree.procedure h s) block =
      cells_for block procedure (h.name ∷ []) ++ result_cells h ++ cells_for (number_at blocks h.name.spot) parameter h.params
  cells_of_decl (tree.files ns) block = []
  cells_of_decl (tree.labels ns) block = []
  cells_of_decl (tree.forward h) block = []

  abbrev pub cells_of_part : Part → Surroundings → List Cell
  cells_of_part (site.declaration d later) a = cells_of_decl d a.block
  cells_of_part (site.actual e f) a =
      if has_cell e f a then record { block = a.block; spot = first_spot e; content = actual } ∷ [] else []
  cells_of_part _ a = []

  abbrev pub cells_at : Site → List Cell
  cells_at x = cells_of_part x.part x.around

  -- the cells of a block in the order of the text
  abbrev pub cells_of : List Site → ℕ → List Cell
  cells_of ss block = filter (λ (c : Cell). c.block == block) (flat_map cells_at ss)

-- ---- the layout of a frame

abbrev pub holding : Content → List Cell → List Cell
holding content cs = filter (λ (c : Cell). content_number c.content == content_number content) cs

-- The cells of a block in the order in which they lie: first those that need no action, then those that actions make, in the order of
-- their declarations. So the code of an actual in a bound is there before any bound is evaluated.
abbrev pub layout : List Cell → List Cell
layout cs =
    holding parameter cs ++ holding result cs ++ holding variable cs ++ holding procedure cs ++ holding actual cs ++ holding made cs

pub record Couple : Type 0 where
  pub level : ℕ
  pub index : ℕ

abbrev FIRST_INDEX : ℕ
FIRST_INDEX = 2

-- the index of the cell that stands there, the first of the list having this one
abbrev pub index_from : ℕ → List Cell → Spot → Option ℕ
index_from i [] spot = None
index_from i (c ∷ cs) spot = if same_spot c.spot spot then Some i else index_from (i + 1) cs spot

abbrev pub couple_at : ℕ → Option ℕ → Option Couple
couple_at level None = None
couple_at level (Some i) = Some (record { level = level; index = i })

-- the couple of the cell of this block that stands there
abbrev pub couple_in : List Block → List Site → ℕ → Spot → Option Couple
couple_in blocks ss block spot =
    couple_at (level_of (block_numbered blocks block)) (index_from FIRST_INDEX (layout (cells_of blocks ss block)) spot)
