-- Where the cells of a block lie in its frame, and which of them a name means.
use Rattle.std.specs.Prelude.{◌≡◌, ℕ, ◌+◌, ◌≤◌, if◌then◌else◌, Bool, true, false, is_some, List, [], ◌∷◌, ◌++◌, map, length, Option, Some, None, slice_get}
use Rattle.algol_tree.specs.declared.token.Spot.{Spot}
use Rattle.algol_tree.specs.declared.tree.Heading.{Heading}
use Rattle.algol_tree.specs.declared.tree.Kind.{Kind}
use Rattle.algol_tree.specs.declared.tree.Named.{Named}
use Rattle.algol_tree.specs.Plain as tree
use Rattle.algol_tree.specs.Plain.{PExpr, PExprs, PPair, PStmt, PStmts, PDecls}
use Rattle.algol_tree.specs.Classes as class
use Rattle.algol_tree.specs.Classes.{Class}
use Rattle.algol_tree.specs.Sorts as sort
use Rattle.algol_tree.specs.Sorts.{same_name, is_variable, is_named_in, procedure, procedure_in, class_in}
use Rattle.algol_tree.specs.Blocks.{Block, block_numbered, number_at, same_spot}
use Rattle.algol_tree.specs.Scopes.{Scopes, use_of}
use Rattle.algol_meaning.specs.Settle.{block_of_sort}
use Rattle.algol_paths.specs.Segments.{segment_of}
use Rattle.algol_paths.specs.Arrays.{DeclaredArray, Shape, shape_of, shape_in, Made, an_array, an_event, made_in}
use Rattle.b67_ops.specs.declared.Couple.{Couple}
use Rattle.b67_ops.specs.declared.TheConstants.{OUTER_LEVEL}

-- what is wanted of a cell or of an actual: a value of a kind, a name of that kind, an array of a shape, an event
pub data Wanted : Type 0 where
  value : Kind → Wanted
  by_name : Kind → Wanted
  array : Shape → Wanted
  event : Wanted
  other : Wanted

-- a cell that needs no action: its name, and what it holds
pub record Simple : Type 0 where
  pub name : List ℕ
  pub wanted : Wanted

abbrev pub of_kind : Kind → List Named → List Simple
of_kind kind ns = map (λ (n : Named). record { name = n.name; wanted = value kind }) ns

abbrev pub variables : PDecls → List Simple
variables tree.no_decls = []
variables (tree.decls (tree.simple kind ns) ds) = of_kind kind ns ++ variables ds
variables (tree.decls d ds) = variables ds

abbrev pub result_cells_of : Option Kind → List ℕ → List Simple
result_cells_of None name = []
result_cells_of (Some kind) name = record { name = name; wanted = value kind } ∷ []

-- ---- parameters

-- what a parameter of this class is given, by value or not
abbrev pub wanted_for : Class → Bool → Option Shape → Wanted
wanted_for (class.simple kind) true shape = value kind
wanted_for (class.simple kind) false shape = by_name kind
wanted_for class.event by_value shape = event
wanted_for _ by_value (Some shape) = array shape
wanted_for _ by_value None = other

-- the cells of a heading's parameters
abbrev pub parameters_in : Heading → List Simple
parameters_in h =
    map (λ (n : Named). record { name = n.name; wanted = wanted_for (class_in h.specs n.name) (is_named_in h.values n.name) (shape_in h.specs n.name) }) h.params

-- .. of the heading whose name stands there
abbrev pub parameters_declared : PDecls → Spot → List Simple
parameters_declared tree.no_decls spot = []
parameters_declared (tree.decls (tree.procedure h s) ds) spot = if same_spot h.name.spot spot then parameters_in h else parameters_declared ds spot
parameters_declared (tree.decls d ds) spot = parameters_declared ds spot

-- .. where these blocks are around it: it stands in the declarations of the innermost of them
abbrev pub parameters_around : List Block → List Spot → Spot → List Simple
parameters_around blocks [] spot = []
parameters_around blocks (outer ∷ outers) spot = parameters_declared ((block_numbered blocks (number_at blocks outer)).decls) spot

-- the cells of a block's parameters, where it is a procedure
abbrev pub parameter_cells : Scopes → Block → List Simple
parameter_cells sc b = parameters_around sc.blocks b.outer b.spot

-- what is wanted for the parameters of the procedure whose block has this number
abbrev pub parameter_wants : Scopes → ℕ → List Wanted
parameter_wants sc callee = map (λ (c : Simple). c.wanted) (parameter_cells sc (block_numbered sc.blocks callee))

-- an array for a parameter of that shape has its kind of elements, and as many dimensions
abbrev pub ShapeAgrees : Shape → Shape → Type 0
ShapeAgrees shape a = (a.kind ≡ shape.kind) × (length a.lows ≡ length shape.lows)

-- ---- the cells of a block

-- those that it has from its entry on, in their order: parameters, the result, simple variables
abbrev pub simple_cells : Scopes → Block → List Simple
simple_cells sc b = parameter_cells sc b ++ result_cells_of b.result b.name ++ variables b.decls

pub record Found : Type 0 where
  pub number : ℕ
  pub cell : Simple

-- the first cell of that name
abbrev pub found_from : ℕ → List Simple → List ℕ → Option Found
found_from k [] name = None
found_from k (c ∷ cells) name = if same_name c.name name then Some (record { number = k; cell = c }) else found_from (k + 1) cells name

-- the procedures that a block declares, in their order; FORWARD declares none of its own
abbrev pub procedures : PDecls → List Named
procedures tree.no_decls = []
procedures (tree.decls (tree.procedure h s) ds) = h.name ∷ procedures ds
procedures (tree.decls d ds) = procedures ds

-- the segments of their code
abbrev pub control_segments : Scopes → PDecls → List ℕ
control_segments sc ds = map (λ (n : Named). segment_of sc.blocks (number_at sc.blocks n.spot)) (procedures ds)

-- ---- what actions make

abbrev pub made_name : Made → List ℕ
made_name (an_array a) = a.name
made_name (an_event name) = name

abbrev pub events_in : List Named → List Made
events_in ns = map (λ (n : Named). an_event n.name) ns

-- what declarations make by actions, in their order: arrays, events, and the events of tasks
abbrev pub made_of : PDecls → List Made
made_of tree.no_decls = []
made_of (tree.decls (tree.arrays kind ns pairs) ds) = made_in kind ns pairs ++ made_of ds
made_of (tree.decls (tree.events ns) ds) = events_in ns ++ made_of ds
made_of (tree.decls (tree.tasks ns) ds) = events_in ns ++ made_of ds
made_of (tree.decls d ds) = made_of ds

pub record FoundMade : Type 0 where
  pub number : ℕ
  pub made : Made

-- the first of that name
abbrev pub made_from : ℕ → List Made → List ℕ → Option FoundMade
made_from k [] name = None
made_from k (m ∷ rest) name = if same_name (made_name m) name then Some (record { number = k; made = m }) else made_from (k + 1) rest name

-- ---- actuals that have a cell

-- an actual whose code is evaluated at each use of the parameter, and the kind that it has
pub record Actual : Type 0 where
  pub expr : PExpr
  pub kind : Kind

module _ (sc : Scopes) where
  -- The name of a simple variable or of a simple parameter stands for itself; anything else that is given for a name has a cell.
  abbrev pub own_actual : Wanted → PExpr → List Actual
  own_actual (by_name k) (tree.variable (tree.subscripted n tree.none)) = if is_some (procedure_in ((use_of sc n).sort)) then record { expr = tree.variable (tree.subscripted n tree.none); kind = k } ∷ [] else []
  own_actual (by_name k) e = record { expr = e; kind = k } ∷ []
  own_actual _ e = []

  abbrev pub wants_of : Named → List Wanted
  wants_of n = parameter_wants sc (block_of_sort ((use_of sc n).sort))

  abbrev mutual
    pub actuals_in : PExpr → List Actual
    actuals_in (tree.variable (tree.subscripted n es)) = actuals_among es
    actuals_in (tree.call (tree.called n es)) = actuals_given (wants_of n) es
    actuals_in (tree.paren e spot) = actuals_in e
    actuals_in (tree.plus e spot) = actuals_in e
    actuals_in (tree.neg e spot) = actuals_in e
    actuals_in (tree.not e spot) = actuals_in e
    actuals_in (tree.two op x y) = actuals_in x ++ actuals_in y
    actuals_in (tree.if c x y spot) = actuals_in c ++ actuals_in x ++ actuals_in y
    actuals_in _ = []

    -- of subscripts, and of items
    pub actuals_among : PExprs → List Actual
    actuals_among tree.none = []
    actuals_among (tree.more e es) = actuals_in e ++ actuals_among es

    -- of a call: each comes before those within it
    pub actuals_given : List Wanted → PExprs → List Actual
    actuals_given wanted tree.none = []
    actuals_given [] (tree.more e es) = actuals_in e ++ actuals_given [] es
    actuals_given (w ∷ wanted) (tree.more e es) = own_actual w e ++ actuals_in e ++ actuals_given wanted es

  abbrev pub actuals_in_pairs : List PPair → List Actual
  actuals_in_pairs [] = []
  actuals_in_pairs (p ∷ pairs) = actuals_in p.high ++ actuals_in_pairs pairs

  abbrev pub actuals_in_decls : PDecls → List Actual
  actuals_in_decls tree.no_decls = []
  actuals_in_decls (tree.decls (tree.arrays kind ns pairs) ds) = actuals_in_pairs pairs ++ actuals_in_decls ds
  actuals_in_decls (tree.decls d ds) = actuals_in_decls ds

  -- what stands in an inner block is that block's
  abbrev mutual
    pub actuals_in_stmt : PStmt → List Actual
    actuals_in_stmt (tree.label n s) = actuals_in_stmt s
    actuals_in_stmt (tree.assign (tree.subscripted n es) e) = actuals_among es ++ actuals_in e
    actuals_in_stmt (tree.call_of (tree.called n es)) = actuals_given (wants_of n) es
    actuals_in_stmt (tree.block (tree.body spot tree.no_decls ss)) = actuals_in_stmts ss
    actuals_in_stmt (tree.if_then c x) = actuals_in c ++ actuals_in_stmt x
    actuals_in_stmt (tree.if_else c x y) = actuals_in c ++ actuals_in_stmt x ++ actuals_in_stmt y
    actuals_in_stmt (tree.while c b) = actuals_in c ++ actuals_in_stmt b
    actuals_in_stmt (tree.until b c) = actuals_in_stmt b ++ actuals_in c
    actuals_in_stmt (tree.for v a s l b) = actuals_in a ++ actuals_in s ++ actuals_in l ++ actuals_in_stmt b
    actuals_in_stmt (tree.thru e b) = actuals_in e ++ actuals_in_stmt b
    actuals_in_stmt (tree.case e ss) = actuals_in e ++ actuals_in_stmts ss
    actuals_in_stmt (tree.process (tree.called n es) task) = actuals_given (wants_of n) es
    actuals_in_stmt (tree.write n spot phrases es) = actuals_among es
    actuals_in_stmt _ = []

    pub actuals_in_stmts : PStmts → List Actual
    actuals_in_stmts tree.no_stmts = []
    actuals_in_stmts (tree.stmts s ss) = actuals_in_stmt s ++ actuals_in_stmts ss

  -- those of a block with these declarations and statements, in the order of the text
  abbrev pub actuals_in_block : PDecls → PStmts → List Actual
  actuals_in_block ds ss = actuals_in_decls ds ++ actuals_in_stmts ss

  abbrev pub actuals_of : Block → List Actual
  actuals_of b = actuals_in_block b.decls b.stmts

-- where the control words of a block's actuals lie in its frame: after its simple cells and the control words of its procedures
abbrev pub actual_base : Scopes → Block → ℕ
actual_base sc b = 2 + length (simple_cells sc b) + length (procedures b.decls)

-- .. and what actions make, after all control words
abbrev pub made_base : Scopes → Block → ℕ
made_base sc b = actual_base sc b + length (actuals_of sc b)

-- only a subscripted actual has a place
abbrev pub has_place : PExpr → Bool
has_place (tree.variable (tree.subscripted n (tree.more e es))) = true
has_place _ = false

-- the cells of 0 that a block begins with: its result and its simple variables
abbrev pub zero_cells : Block → List Simple
zero_cells b = result_cells_of b.result b.name ++ variables b.decls

-- At this level the name is that of the procedure whose block has this number, and this is the couple of its control word, which lies
-- after the simple cells of the block that declares it.
pub record IsProcedure (sc : Scopes) (level : ℕ) (n : Named) (callee : ℕ) (couple : Couple) : Type 0 where
  pub sort_is : (use_of sc n).sort ≡ procedure callee
  pub number : ℕ
  pub declared : Named
  pub there : slice_get (procedures ((block_numbered sc.blocks ((use_of sc n).block)).decls)) number ≡ Some declared
  pub callee_is : number_at sc.blocks declared.spot ≡ callee
  pub level_is : couple.level + (use_of sc n).up ≡ level
  pub index_is : couple.index ≡ 2 + length (simple_cells sc (block_numbered sc.blocks ((use_of sc n).block))) + number

-- At this level the name is a variable of this kind, and this is its couple. Its cell lies above the two words of the frame, and its level is
-- as many levels up as the block that declares the name.
pub record IsVariable (sc : Scopes) (level : ℕ) (n : Named) (kind : Kind) (couple : Couple) : Type 0 where
  pub variable : is_variable ((use_of sc n).sort) ≡ true
  pub found : Found
  pub there : found_from 0 (simple_cells sc (block_numbered sc.blocks ((use_of sc n).block))) n.name ≡ Some found
  pub wanted_is : found.cell.wanted ≡ value kind
  pub level_is : couple.level + (use_of sc n).up ≡ level
  pub index_is : couple.index ≡ 2 + found.number

-- .. of a parameter by name, and this is the couple of its cell, which has a reference to a variable's cell or to that of the control word
-- of an actual's code.
pub record IsFormalName (sc : Scopes) (level : ℕ) (n : Named) (kind : Kind) (couple : Couple) : Type 0 where
  pub sort_is : (use_of sc n).sort ≡ sort.by_name
  pub found : Found
  pub there : found_from 0 (simple_cells sc (block_numbered sc.blocks ((use_of sc n).block))) n.name ≡ Some found
  pub wanted_is : found.cell.wanted ≡ by_name kind
  pub level_is : couple.level + (use_of sc n).up ≡ level
  pub index_is : couple.index ≡ 2 + found.number

-- what VALC reads
pub data IsRead (sc : Scopes) (level : ℕ) (n : Named) (kind : Kind) (couple : Couple) : Type 0 where
  of_variable : IsVariable sc level n kind couple → IsRead sc level n kind couple
  of_formal : IsFormalName sc level n kind couple → IsRead sc level n kind couple

-- At this level the name is that of what an action of its block makes, and this is the couple of its cell. No simple cell of the block has
-- that name.
pub record IsMadeThere (sc : Scopes) (level : ℕ) (n : Named) (made : Made) (couple : Couple) : Type 0 where
  pub number : ℕ
  pub there : made_from 0 (made_of ((block_numbered sc.blocks ((use_of sc n).block)).decls)) n.name ≡ Some (record { number = number; made = made })
  pub apart : found_from 0 (simple_cells sc (block_numbered sc.blocks ((use_of sc n).block))) n.name ≡ None
  pub outer : OUTER_LEVEL ≤ couple.level
  pub level_is : couple.level + (use_of sc n).up ≡ level
  pub index_is : couple.index ≡ made_base sc (block_numbered sc.blocks ((use_of sc n).block)) + number

-- .. of an array that a block declares, and this is the couple of its descriptor
pub record IsDeclaredArray (sc : Scopes) (level : ℕ) (n : Named) (declared : DeclaredArray) (couple : Couple) : Type 0 where
  pub sort_is : (use_of sc n).sort ≡ sort.array
  pub made : IsMadeThere sc level n (an_array declared) couple

-- .. of a parameter that stands for an array, and this is the couple of its cell, which has a reference to the array's.
pub record IsFormalArray (sc : Scopes) (level : ℕ) (n : Named) (shape : Shape) (couple : Couple) : Type 0 where
  pub sort_is : (use_of sc n).sort ≡ sort.formal_array shape.lows
  pub found : Found
  pub there : found_from 0 (simple_cells sc (block_numbered sc.blocks ((use_of sc n).block))) n.name ≡ Some found
  pub wanted_is : found.cell.wanted ≡ array shape
  pub level_is : couple.level + (use_of sc n).up ≡ level
  pub index_is : couple.index ≡ 2 + found.number

-- the name stands for an array of this shape, in the one way or the other
pub data IsArray (sc : Scopes) (level : ℕ) (n : Named) (shape : Shape) (couple : Couple) : Type 0 where
  declared : (d : DeclaredArray) → shape ≡ shape_of d → IsDeclaredArray sc level n d couple → IsArray sc level n shape couple
  formal : IsFormalArray sc level n shape couple → IsArray sc level n shape couple

-- At this level the name is that of an event or of a task that a block declares, and this is the couple of the event's cell.
pub record IsDeclaredEvent (sc : Scopes) (level : ℕ) (n : Named) (couple : Couple) : Type 0 where
  pub sort_is : (use_of sc n).sort ≡ sort.event
  pub made : IsMadeThere sc level n (an_event n.name) couple

-- .. of a parameter that stands for an event, and this is the couple of its cell, which has a reference to the event's.
pub record IsFormalEvent (sc : Scopes) (level : ℕ) (n : Named) (couple : Couple) : Type 0 where
  pub sort_is : (use_of sc n).sort ≡ sort.formal_event
  pub found : Found
  pub there : found_from 0 (simple_cells sc (block_numbered sc.blocks ((use_of sc n).block))) n.name ≡ Some found
  pub wanted_is : found.cell.wanted ≡ event
  pub level_is : couple.level + (use_of sc n).up ≡ level
  pub index_is : couple.index ≡ 2 + found.number

-- the name stands for an event, in the one way or the other
pub data IsEvent (sc : Scopes) (level : ℕ) (n : Named) (couple : Couple) : Type 0 where
  declared_event : IsDeclaredEvent sc level n couple → IsEvent sc level n couple
  formal_event : IsFormalEvent sc level n couple → IsEvent sc level n couple

-- .. each of these names, with the couple of its cell
abbrev pub AreEvents : Scopes → ℕ → List Named → List Couple → Type 0
AreEvents sc level [] [] = Unit {0}
AreEvents sc level (n ∷ ns) (c ∷ cs) = IsEvent sc level n c × AreEvents sc level ns cs
AreEvents sc level _ _ = ⊥

-- In the text of the block with this number, of this level, the actual has a cell, and this is the couple of it.
pub record IsOwnActual (sc : Scopes) (block level : ℕ) (e : PExpr) (kind : Kind) (couple : Couple) : Type 0 where
  pub own : own_actual sc (by_name kind) e ≡ record { expr = e; kind = kind } ∷ []
  pub number : ℕ
  pub there : slice_get (actuals_of sc (block_numbered sc.blocks block)) number ≡ Some (record { expr = e; kind = kind })
  pub outer : OUTER_LEVEL ≤ couple.level
  pub level_is : couple.level ≡ level
  pub index_is : couple.index ≡ actual_base sc (block_numbered sc.blocks block) + number
