-- The scopes of a tree: for each use of a name, which block declares it and how many static parents up that is. This is fixed by the
-- place of the use in the text, before any run; everything that asks what a name means asks here.
use Rattle.std.specs.Prelude.{ℕ, ◌-◌, if◌then◌else◌, List, [], ◌∷◌, Option, Some, None, map}
use Rattle.std.specs.List.{flat_map}
use Rattle.algol_tree.specs.declared.tree.EventName.{EventName}
use Rattle.algol_tree.specs.declared.token.Spot.{Spot}
use Rattle.algol_tree.specs.declared.tree.Named.{Named}
use Rattle.algol_tree.specs.Plain as tree
use Rattle.algol_tree.specs.Plain.{PExpr, PStmt, PProgram}
use Rattle.algol_tree.specs.Sorts as sort
use Rattle.algol_tree.specs.Sorts.{Sort, Declared}
use Rattle.algol_tree.specs.Blocks.{Block, same_spot, blocks_of_program}
use Rattle.algol_tree.specs.Surroundings.{Surroundings, declared_as}
use Rattle.algol_tree.specs.Sites as site
use Rattle.algol_tree.specs.Sites.{Part, Site, sites_by}

-- A use of a name: where it stands, the number of the block that declares the name, how many static parents up that block is from where
-- the use stands, and what the name is declared as. On the left of an assignment the name of a typed procedure is its result.
pub record Use : Type 0 where
  pub spot : Spot
  pub block : ℕ
  pub up : ℕ
  pub sort : Sort

abbrev pub use_by : Surroundings → Named → Option Declared → List Use
use_by a n None = []
use_by a n (Some d) = record { spot = n.spot; block = d.block; up = a.depth - d.depth; sort = d.sort } ∷ []

abbrev pub used : Surroundings → Named → List Use
used a n = use_by a n (declared_as a n)

-- On the left a typed procedure's name is its result, a cell of the procedure's own block, which is one further in.
abbrev pub left_use : Use → Sort → Use
left_use u (sort.procedure block) = record { spot = u.spot; block = block; up = u.up - 1; sort = sort.variable }
left_use u _ = u

abbrev pub left_uses : List Use → List Use
left_uses [] = []
left_uses (u ∷ us) = left_use u u.sort ∷ us

-- ---- the names that a part of the tree uses itself

abbrev pub names_in_expr : PExpr → List Named
names_in_expr (tree.variable (tree.subscripted n es)) = n ∷ []
names_in_expr (tree.call (tree.called n es)) = n ∷ []
names_in_expr (tree.tested test es spot) = map (λ (e : EventName). e.name) es
names_in_expr (tree.number z spot) = []
names_in_expr (tree.truth b spot) = []
names_in_expr (tree.paren e spot) = []
names_in_expr (tree.plus e spot) = []
names_in_expr (tree.neg e spot) = []
names_in_expr (tree.not e spot) = []
names_in_expr (tree.two op x y) = []
names_in_expr (tree.if c x y spot) = []

abbrev pub if_named : Option Named → List Named
if_named None = []
if_named (Some n) = n ∷ []

abbrev pub names_in_stmt : PStmt → List Named
names_in_stmt (tree.label n s) = n ∷ []
names_in_stmt (tree.assign (tree.subscripted n es) e) = n ∷ []
names_in_stmt (tree.call_of (tree.called n es)) = n ∷ []
names_in_stmt (tree.go_to n) = n ∷ []
names_in_stmt (tree.for v x s l b) = v ∷ []
names_in_stmt (tree.process (tree.called n es) task) = n ∷ if_named task
names_in_stmt (tree.event act e) = e.name ∷ []
names_in_stmt (tree.write n spot phrases es) = n ∷ []
names_in_stmt tree.empty = []
names_in_stmt (tree.block b) = []
names_in_stmt (tree.if_then c x) = []
names_in_stmt (tree.if_else c x y) = []
names_in_stmt (tree.while c b) = []
names_in_stmt (tree.until b c) = []
names_in_stmt (tree.thru e b) = []
names_in_stmt (tree.case e ss) = []

abbrev pub names_in : Part → List Named
names_in (site.name n) = n ∷ []
names_in (site.expression e) = names_in_expr e
names_in (site.actual e f) = []
names_in (site.bound e) = []
names_in (site.statement s listed) = names_in_stmt s
names_in (site.declaration d later) = []

abbrev pub stmt_uses : PStmt → Surroundings → List Use
stmt_uses (tree.assign (tree.subscripted n es) e) a = left_uses (used a n)
stmt_uses s a = flat_map (used a) (names_in_stmt s)

abbrev pub part_uses : Part → Surroundings → List Use
part_uses (site.statement s listed) a = stmt_uses s a
part_uses p a = flat_map (used a) (names_in p)

abbrev pub uses_at : Site → List Use
uses_at x = part_uses x.part x.around

-- ---- the scopes

-- the scopes of a tree: its blocks in text order, and the uses of names
pub record Scopes : Type 0 where
  pub blocks : List Block
  pub uses : List Use

abbrev pub scopes_by : PProgram → List Block → Scopes
scopes_by p blocks = record { blocks = blocks; uses = flat_map uses_at (sites_by p blocks) }

unfoldable pub scopes_of : PProgram → Scopes
scopes_of p = scopes_by p (blocks_of_program p)

-- where the declaration of the name that is used there stands
abbrev pub declared_in : List Use → Spot → Option Use
declared_in [] spot = None
declared_in (u ∷ us) spot = if same_spot u.spot spot then Some u else declared_in us spot

-- Each use of an accepted tree has one.
abbrev pub use_of : Scopes → Named → Use
use_of sc n = or_none (declared_in sc.uses n.spot)
  where
    or_none : Option Use → Use
    or_none (Some u) = u
    or_none None = record { spot = n.spot; block = 0; up = 0; sort = sort.variable }
