-- The lower bounds of the arrays of a program, and of the parameters that stand for arrays, by the places of their names.
use Rattle.std.specs.Prelude.{◌≡◌, if◌then◌else◌, ℤ, true, false, List, [], ◌∷◌, Option, Some, None}
use Rattle.std.specs.BTreeMap.{BTreeMap, get}
use Rattle.algol_tree.specs.declared.token.Spot.{Spot}
use Rattle.algol_tree.specs.declared.tree.Named.{Named}
use Rattle.algol_tree.specs.declared.tree.Spec.{Spec}
use Rattle.algol_tree.specs.declared.tree.Spec.TheVariants as spec
use Rattle.algol_tree.specs.contracts.token.SpotOrd.TheImpl.{ghosts}
use Rattle.algol_tree.specs.Blocks.{same_spot}
use Rattle.algol_tree.specs.Plain as tree
use Rattle.algol_tree.specs.Plain.{PPair, PStmt, PStmts, PDecl, PDecls, PBody}
use Rattle.algol_frames.specs.declared.scopes.Declared.{Declared}
use Rattle.algol_frames.specs.declared.scopes.Scopes.{Scopes}
use Rattle.algol_scope.specs.Resolved.{declaration_of}
use Rattle.algol_paths.specs.Arrays.{Lows, lows_of, stands_among, or_lows}
use Rattle.algol_lows.specs.declared.bounds.Lows as kept

-- what is kept of an array
abbrev pub told_lows : kept.Lows → Lows
told_lows l = record { list = l.list; formal = l.formal }

abbrev pub lows_told : Option kept.Lows → Option Lows
lows_told None = None
lows_told (Some l) = Some (told_lows l)

-- of a declared array
abbrev pub own_lows : List PPair → Lows
own_lows pairs = record { list = lows_of pairs; formal = false }

-- where one name is declared, and where several are
abbrev pub lows_there : Spot → Lows → Spot → Option Lows
lows_there at lows spot = if same_spot at spot then Some lows else None

abbrev pub lows_named : List Named → Lows → Spot → Option Lows
lows_named ns lows spot = if stands_among ns spot then Some lows else None

-- of the parameter that a name with this declaration means, which is specified as an array
abbrev pub lows_meant : Option Declared → List ℤ → Spot → Option Lows
lows_meant None lows spot = None
lows_meant (Some d) lows spot = lows_there d.spot (record { list = lows; formal = true }) spot

-- where names have the meanings that these scopes tell
module _ (s : Scopes) where
  -- .. of the parameters that a specification names, and of those of all specifications of a heading
  abbrev pub lows_of_names : List Named → List ℤ → Spot → Option Lows
  lows_of_names [] lows spot = None
  lows_of_names (n ∷ ns) lows spot = or_lows (lows_meant (declaration_of s n.spot) lows spot) (lows_of_names ns lows spot)

  abbrev pub lows_of_spec : Spec → Spot → Option Lows
  lows_of_spec (spec.Arrays kind ns lows) spot = lows_of_names ns lows spot
  lows_of_spec (spec.Simple kind ns) spot = None
  lows_of_spec (spec.Events ns) spot = None

  abbrev pub lows_of_specs : List Spec → Spot → Option Lows
  lows_of_specs [] spot = None
  lows_of_specs (x ∷ xs) spot = or_lows (lows_of_spec x spot) (lows_of_specs xs spot)

  -- ---- of the arrays in a tree; those that a BEGIN declares, and the parameters of its procedures, come before those within it

  abbrev pub lows_made : PDecl → Spot → Option Lows
  lows_made (tree.arrays kind ns pairs) spot = lows_named ns (own_lows pairs) spot
  lows_made (tree.procedure h s) spot = lows_of_specs h.specs spot
  lows_made _ spot = None

  abbrev pub lows_begun : PDecls → Spot → Option Lows
  lows_begun tree.no_decls spot = None
  lows_begun (tree.decls d ds) spot = or_lows (lows_made d spot) (lows_begun ds spot)

  abbrev mutual
    pub lows_in_stmt : PStmt → Spot → Option Lows
    lows_in_stmt (tree.label n s) spot = lows_in_stmt s spot
    lows_in_stmt (tree.block b) spot = lows_in_body b spot
    lows_in_stmt (tree.if_then c x) spot = lows_in_stmt x spot
    lows_in_stmt (tree.if_else c x y) spot = or_lows (lows_in_stmt x spot) (lows_in_stmt y spot)
    lows_in_stmt (tree.while c b) spot = lows_in_stmt b spot
    lows_in_stmt (tree.until b c) spot = lows_in_stmt b spot
    lows_in_stmt (tree.for v a s l b) spot = lows_in_stmt b spot
    lows_in_stmt (tree.thru e b) spot = lows_in_stmt b spot
    lows_in_stmt (tree.case e ss) spot = lows_in_stmts ss spot
    lows_in_stmt _ spot = None

    pub lows_in_stmts : PStmts → Spot → Option Lows
    lows_in_stmts tree.no_stmts spot = None
    lows_in_stmts (tree.stmts s ss) spot = or_lows (lows_in_stmt s spot) (lows_in_stmts ss spot)

    pub lows_in_decl : PDecl → Spot → Option Lows
    lows_in_decl (tree.procedure h s) spot = lows_in_stmt s spot
    lows_in_decl _ spot = None

    pub lows_in_decls : PDecls → Spot → Option Lows
    lows_in_decls tree.no_decls spot = None
    lows_in_decls (tree.decls d ds) spot = or_lows (lows_in_decl d spot) (lows_in_decls ds spot)

    pub lows_in_body : PBody → Spot → Option Lows
    lows_in_body (tree.body at ds ss) spot = or_lows (lows_begun ds spot) (or_lows (lows_in_decls ds spot) (lows_in_stmts ss spot))

-- ---- in a table

-- what the table has under a place
abbrev pub lows_found_under : BTreeMap Spot kept.Lows → Spot → Option Lows
lows_found_under table spot = lows_told (get ghosts.cmp table spot)

-- the second table has also what is found at a place where the first has nothing
abbrev pub LowsAdd : BTreeMap Spot kept.Lows → BTreeMap Spot kept.Lows → (Spot → Option Lows) → Type 0
LowsAdd old new found = (spot : Spot) → lows_found_under new spot ≡ or_lows (lows_found_under old spot) (found spot)
