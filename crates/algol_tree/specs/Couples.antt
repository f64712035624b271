-- What the scopes of a tree say of a place in the text: the declaration of the name that stands there, and the couple of the cell that
-- is made for it.
use Rattle.std.specs.Prelude.{ℕ, ◌==◌, if◌then◌else◌, List, [], ◌∷◌, ◌++◌, filter, slice_get, Option, Some, None}
use Rattle.std.specs.List.{flat_map}
use Rattle.algol_tree.specs.declared.token.Spot.{Spot}
use Rattle.algol_tree.specs.declared.tree.Named.{Named}
use Rattle.algol_tree.specs.declared.tree.Heading.{Heading}
use Rattle.algol_tree.specs.Plain as tree
use Rattle.algol_tree.specs.Plain.{PDecl, PDecls, PProgram}
use Rattle.algol_tree.specs.Sorts.{Declared}
use Rattle.algol_tree.specs.Blocks.{Block, same_spot, number_at, blocks_of_program}
use Rattle.algol_tree.specs.Surroundings.{Surroundings, declared_as, knowing, inside_procedure}
use Rattle.algol_tree.specs.Sites as site
use Rattle.algol_tree.specs.Sites.{Part, Site, sites_by}
use Rattle.algol_tree.specs.Scopes.{names_in}
use Rattle.algol_tree.specs.Cells.{Cell, Couple, cells_at, content_number, actual, couple_in, level_of, level_at}
use Rattle.algol_tree.specs.Names.{specified}

-- a name that stands in the text, and its declaration
pub record Known : Type 0 where
  pub spot : Spot
  pub declared : Declared

abbrev pub known_by : Spot → Option Declared → List Known
known_by spot None = []
known_by spot (Some d) = record { spot = spot; declared = d } ∷ []

abbrev pub known_names : Surroundings → List Named → List Known
known_names a ns = flat_map (λ (n : Named). known_by n.spot (declared_as a n)) ns

-- the names of a heading in its procedure: its parameters, and where VALUE and specifications name them
abbrev pub known_in_heading : Heading → Surroundings → List Known
known_in_heading h a = known_names a h.params ++ known_names a h.values ++ known_names a (specified h)

module _ (blocks : List Block) where
  -- the names that a declaration declares, seen from after it
  abbrev pub known_in_decl : PDecl → Surroundings → List Known
  known_in_decl (tree.simple kind ns) a = known_names a ns
  known_in_decl (tree.files ns) a = known_names a ns
  known_in_decl (tree.events ns) a = known_names a ns
  known_in_decl (tree.tasks ns) a = known_names a ns
  known_in_decl (tree.labels ns) a = known_names a ns
  known_in_decl (tree.arrays kind ns pairs) a = known_names a ns
  known_in_decl (tree.forward h) a = known_names a (h.name ∷ [])
  known_in_decl (tree.procedure h s) a = known_names a (h.name ∷ []) ++ known_in_heading h (inside_procedure blocks h a)

  abbrev pub known_in_part : Part → Surroundings → List Known
  known_in_part (site.declaration d later) a = known_in_decl d (knowing blocks d later a)
  known_in_part p a = known_names a (names_in p)

  abbrev pub known_at : Site → List Known
  known_at x = known_in_part x.part x.around

abbrev pub known_there : List Known → Spot → Option Declared
known_there [] spot = None
known_there (k ∷ ks) spot = if same_spot k.spot spot then Some k.declared else known_there ks spot

-- A declaration as a use of its name sees it: where it stands, the level of its block, and its couple, which a label and a file have
-- not.
pub record Located : Type 0 where
  pub spot : Spot
  pub level : ℕ
  pub couple : Option Couple

abbrev pub located : List Block → List Site → Option Declared → Option Located
located blocks ss None = None
located blocks ss (Some d) =
    Some (record { spot = d.spot; level = level_at d.depth; couple = couple_in blocks ss d.block d.spot })

abbrev pub declaration_in : List Block → List Site → Spot → Option Located
declaration_in blocks ss spot = located blocks ss (known_there (flat_map (known_at blocks) ss) spot)

-- the declaration of the name that is used or declared there
unfoldable pub declaration_at : PProgram → Spot → Option Located
declaration_at p spot = declaration_in (blocks_of_program p) (sites_by p (blocks_of_program p)) spot

-- the couple of the result of the typed procedure whose heading with the body has its name there
unfoldable pub result_at : PProgram → Spot → Option Couple
result_at p spot =
    couple_in (blocks_of_program p) (sites_by p (blocks_of_program p)) (number_at (blocks_of_program p) spot) spot

abbrev pub couple_of_cells : List Block → List Site → List Cell → Spot → Option Couple
couple_of_cells blocks ss [] spot = None
couple_of_cells blocks ss (c ∷ cs) spot = if same_spot c.spot spot then couple_in blocks ss c.block spot else couple_of_cells blocks ss cs spot

abbrev pub actual_cells : List Block → List Site → List Cell
actual_cells blocks ss = filter (λ (c : Cell). content_number c.content == content_number actual) (flat_map (cells_at blocks) ss)

-- the couple of the actual that has a cell and whose first token stands there
unfoldable pub actual_at : PProgram → Spot → Option Couple
actual_at p spot =
    couple_of_cells (blocks_of_program p) (sites_by p (blocks_of_program p))
    (actual_cells (blocks_of_program p) (sites_by p (blocks_of_program p))) spot

abbrev pub level_if : Option Block → Option ℕ
level_if None = None
level_if (Some b) = Some (level_of b)

-- the level of the block with that number
unfoldable pub level_of_block : PProgram → ℕ → Option ℕ
level_of_block p i = level_if (slice_get (blocks_of_program p) i)
