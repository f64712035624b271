-- What the scopes of the code stand for.
use Rattle.std.specs.Prelude.{ℕ, ℤ, Bool, true, false, if◌then◌else◌, List, [], ◌∷◌, map, Option, Some, None}
use Rattle.std.specs.Borrow.{Bor}
use Rattle.std.specs.BTreeMap.{BTreeMap, get}
use Rattle.algol_tree.specs.Plain as tree
use Rattle.algol_tree.specs.declared.token.Spot.{Spot}
use Rattle.algol_tree.specs.declared.tree.Kind.{Kind}
use Rattle.algol_tree.specs.declared.tree.Spec.{Spec}
use Rattle.algol_tree.specs.declared.tree.Spec.TheVariants as specs
use Rattle.algol_tree.specs.contracts.token.SpotOrd.TheImpl.{ghosts}
use Rattle.algol_tree.specs.Plain.{PStmts}
use Rattle.algol_tree.specs.Sorts as plain
use Rattle.algol_tree.specs.Blocks as blocks
use Rattle.algol_tree.specs.Scopes as scoping
use Rattle.algol_sorts.specs.declared.sort.Sort.{Sort}
use Rattle.algol_sorts.specs.declared.sort.Sort.TheVariants as sorts
use Rattle.algol_meaning.specs.SeenTree.{stmt, stmts, decls}
use Rattle.algol_cells.specs.declared.scope.Use.{Use}
use Rattle.algol_cells.specs.declared.scope.Parameter.{Parameter}
use Rattle.algol_cells.specs.declared.scope.BlockStatements.{BlockStatements}
use Rattle.algol_cells.specs.declared.scope.BlockStatements.TheVariants as statements
use Rattle.algol_cells.specs.declared.scope.Owner.{Owner}
use Rattle.algol_cells.specs.declared.scope.Block.{Block}
use Rattle.algol_cells.specs.declared.scope.Scopes.{Scopes}

-- ---- what a name is declared as

-- What is declared as this is in the meaning: `lows` are the lower bounds of a parameter that stands for an array, and `number` is that of
-- a procedure's block.
abbrev pub sort_as : Sort → List ℤ → ℕ → plain.Sort
sort_as (sorts.Variable kind) lows number = plain.variable
sort_as (sorts.ByName kind) lows number = plain.by_name
sort_as (sorts.Array kind subscripts) lows number = plain.array
sort_as (sorts.FormalArray kind subscripts) lows number = plain.formal_array lows
sort_as sorts.Event lows number = plain.event
sort_as sorts.Task lows number = plain.event
sort_as sorts.FormalEvent lows number = plain.formal_event
sort_as sorts.Label lows number = plain.label
sort_as sorts.File lows number = plain.file
sort_as (sorts.Procedure result) lows number = plain.procedure number
sort_as sorts.Unspecified lows number = plain.variable

-- a parameter that is so declared is by value
abbrev pub is_by_value : Sort → Bool
is_by_value (sorts.Variable kind) = true
is_by_value sorts.Unspecified = true
is_by_value _ = false

abbrev pub by_value_or_none : Option plain.Sort → Option Bool
by_value_or_none None = None
by_value_or_none (Some s) = Some (plain.is_variable s)

-- the lower bounds of a parameter for an array
abbrev pub lows_in_sort : plain.Sort → Option (List ℤ)
lows_in_sort (plain.formal_array lows) = Some lows
lows_in_sort _ = None

-- ---- uses of names

abbrev pub or_no_lows : Option (Bor (List ℤ)) → List ℤ
or_no_lows None = []
or_no_lows (Some lows) = lows.now

-- the lower bounds that a table has under a place
abbrev pub lows_under : BTreeMap Spot (Bor (List ℤ)) → Spot → List ℤ
lows_under table spot = or_no_lows (get ghosts.cmp table spot)

-- `lows`: the lower bounds by the places of declarations; `number`: the numbers of blocks by their places
abbrev pub used : (Spot → List ℤ) → (Spot → ℕ) → Use → scoping.Use
used lows number u = record { spot = u.spot; block = u.block; up = u.up; sort = sort_as u.sort (lows u.declared) (number u.declared) }

abbrev pub used_or_none : (Spot → List ℤ) → (Spot → ℕ) → Option Use → Option scoping.Use
used_or_none lows number None = None
used_or_none lows number (Some u) = Some (used lows number u)

-- ---- blocks

-- the lower bounds of the first specification that speaks of a name
abbrev pub lows_by : Spec → List ℤ
lows_by (specs.Arrays kind ns lows) = lows
lows_by (specs.Simple kind ns) = []
lows_by (specs.Events ns) = []

abbrev pub lows_specified : List Spec → List ℕ → List ℤ
lows_specified [] name = []
lows_specified (s ∷ ss) name = if plain.specified_by s name then lows_by s else lows_specified ss name

-- its lower bounds stand in its heading
abbrev pub parameter : Parameter → plain.Parameter
parameter p = record { name = p.name.now; sort = sort_as p.sort (lows_specified p.heading.now.specs p.name.now) 0 }

abbrev pub in_block : BlockStatements → PStmts
in_block (statements.All ss) = stmts ss.now
in_block (statements.One s) = tree.stmts (stmt s.now) tree.no_stmts

-- the outer block and a BEGIN have no name
abbrev pub name_of : Option Owner → List ℕ
name_of None = []
name_of (Some o) = o.name.now

abbrev pub result_of_owner : Option Owner → Option Kind
result_of_owner None = None
result_of_owner (Some o) = o.result

abbrev pub block : Block → blocks.Block
block b =
    record {
      spot = b.spot;
      outer = b.outer;
      name = name_of b.owner;
      parameters = map parameter b.parameters;
      result = result_of_owner b.owner;
      decls = decls b.decls.now;
      stmts = in_block b.stmts;
    }

-- an empty block stands in where there is none
abbrev pub block_or_none : Option (Bor Block) → blocks.Block
block_or_none None = blocks.block_numbered [] 0
block_or_none (Some b) = block b.now

-- ---- the scopes

-- what a use of a name means, by the tables of the scopes
abbrev pub used_in : Scopes → Use → scoping.Use
used_in sc u = used (lows_under sc.lows) (blocks.number_at (map block sc.blocks.list.items)) u

-- What uses of names mean, by a table of lower bounds and by the blocks. It opens only where it is asked to, so that equal scopes are seen
-- to have equal uses.
unfoldable pub uses_by : BTreeMap Spot (Bor (List ℤ)) → List blocks.Block → List Use → List scoping.Use
uses_by lows bs us = map (used (lows_under lows) (blocks.number_at bs)) us

abbrev pub scoped : Scopes → scoping.Scopes
scoped sc =
    record {
      blocks = map block sc.blocks.list.items;
      uses = uses_by sc.lows (map block sc.blocks.list.items) sc.uses.list.items;
    }
