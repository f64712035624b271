-- The arrays that a block declares, and those that a part has still to make.
use Rattle.std.specs.Prelude.{ℕ, ℤ, if◌then◌else◌, Bool, true, false, List, [], ◌∷◌, ◌++◌, map, Option, Some, None}
use Rattle.algol_tree.specs.declared.token.Spot.{Spot}
use Rattle.algol_tree.specs.declared.tree.Kind.{Kind}
use Rattle.algol_tree.specs.declared.tree.Named.{Named}
use Rattle.algol_tree.specs.declared.tree.Spec.{Spec}
use Rattle.algol_tree.specs.declared.tree.Spec.TheVariants as spec
use Rattle.algol_tree.specs.Plain as tree
use Rattle.algol_tree.specs.Plain.{PPair, PDecls}
use Rattle.algol_tree.specs.Sorts.{specified_by}
use Rattle.algol_tree.specs.Blocks.{Block, same_spot}
use Rattle.algol_meaning.specs.Rest.{Item, make_arrays, make_event, Rest, arrays, event, bounding}

-- an array that a declaration makes: its name, the kind of its elements, its bounds
pub record DeclaredArray : Type 0 where
  pub name : List ℕ
  pub kind : Kind
  pub pairs : List PPair

abbrev pub arrays_in : Kind → List Named → List PPair → List DeclaredArray
arrays_in kind ns pairs = map (λ (n : Named). record { name = n.name; kind = kind; pairs = pairs }) ns

-- How a name stands for an array: the kind of its elements, and for each dimension the lower bound from which its subscripts count.
pub record Shape : Type 0 where
  pub kind : Kind
  pub lows : List ℤ

-- the lower bounds of an array, and whether it is a parameter
pub record Lows : Type 0 where
  pub list : List ℤ
  pub formal : Bool

-- those of declarations, in their order
abbrev pub arrays_of : PDecls → List DeclaredArray
arrays_of tree.no_decls = []
arrays_of (tree.decls (tree.arrays kind ns pairs) ds) = arrays_in kind ns pairs ++ arrays_of ds
arrays_of (tree.decls d ds) = arrays_of ds

-- the lower bounds of an array
abbrev pub lows_of : List PPair → List ℤ
lows_of pairs = map (λ (p : PPair). p.low) pairs

-- of a declared one
abbrev pub shape_of : DeclaredArray → Shape
shape_of declared = record { kind = declared.kind; lows = lows_of declared.pairs }

-- a parameter that is specified as an array
abbrev pub shape_by : Spec → Option Shape
shape_by (spec.Arrays kind ns lows) = Some (record { kind = kind; lows = lows })
shape_by _ = None

-- the first specification of a name decides
abbrev pub shape_in : List Spec → List ℕ → Option Shape
shape_in [] name = None
shape_in (s ∷ specs) name = if specified_by s name then shape_by s else shape_in specs name

-- ---- by the places of their names

abbrev pub stands_among : List Named → Spot → Bool
stands_among [] spot = false
stands_among (n ∷ ns) spot = if same_spot n.spot spot then true else stands_among ns spot

abbrev pub lows_in_shape : Option Shape → Option Lows
lows_in_shape None = None
lows_in_shape (Some shape) = Some (record { list = shape.lows; formal = true })

abbrev pub or_lows : Option Lows → Option Lows → Option Lows
or_lows None otherwise = otherwise
or_lows (Some lows) otherwise = Some lows

-- of a parameter whose name stands there
abbrev pub lows_among : List Spec → List Named → Spot → Option Lows
lows_among specs [] spot = None
lows_among specs (n ∷ ns) spot = if same_spot n.spot spot then lows_in_shape (shape_in specs n.name) else lows_among specs ns spot

-- the lower bounds of the array whose name is declared there, or of the parameter
abbrev pub lows_declared : PDecls → Spot → Option Lows
lows_declared tree.no_decls spot = None
lows_declared (tree.decls (tree.procedure h s) ds) spot = or_lows (lows_among h.specs h.params spot) (lows_declared ds spot)
lows_declared (tree.decls (tree.arrays kind ns pairs) ds) spot =
    if stands_among ns spot then Some (record { list = lows_of pairs; formal = false }) else lows_declared ds spot
lows_declared (tree.decls d ds) spot = lows_declared ds spot

-- .. in whatever block
abbrev pub lows_at : List Block → Spot → Option Lows
lows_at [] spot = None
lows_at (b ∷ bs) spot = or_lows (lows_declared b.decls spot) (lows_at bs spot)

-- ---- what is still to be made

abbrev pub arrays_to_come : List Item → List DeclaredArray
arrays_to_come [] = []
arrays_to_come (make_arrays kind ns pairs ∷ k) = arrays_in kind ns pairs ++ arrays_to_come k
arrays_to_come (_ ∷ k) = arrays_to_come k

-- by a part whose head is among its bounds, or makes arrays or an event; any other has none to make
abbrev pub to_make : Rest → List DeclaredArray
to_make (bounding kind ns pairs vs h ps k) = arrays_in kind ns pairs ++ arrays_to_come k
to_make (arrays kind ns pairs vs k) = arrays_in kind ns pairs ++ arrays_to_come k
to_make (event n k) = arrays_to_come k
to_make _ = []

-- .. after the action of its head
abbrev pub left_to_make : Rest → List DeclaredArray
left_to_make (bounding kind ns pairs vs h ps k) = arrays_in kind ns pairs ++ arrays_to_come k
left_to_make (arrays kind ns pairs vs k) = arrays_to_come k
left_to_make (event n k) = arrays_to_come k
left_to_make _ = []

-- ---- arrays, events and tasks together

-- what a declaration makes by actions: an array, an event or a task. All of them stand in one order, which is that of their cells.
pub data Made : Type 0 where
  an_array : DeclaredArray → Made
  an_event : List ℕ → Made

abbrev pub made_in : Kind → List Named → List PPair → List Made
made_in kind ns pairs = map an_array (arrays_in kind ns pairs)

-- those that items still make
abbrev pub to_come : List Item → List Made
to_come [] = []
to_come (make_arrays kind ns pairs ∷ k) = made_in kind ns pairs ++ to_come k
to_come (make_event n ∷ k) = an_event n.name ∷ to_come k
to_come (_ ∷ k) = to_come k

-- .. and that a part still makes
abbrev pub all_to_make : Rest → List Made
all_to_make (bounding kind ns pairs vs h ps k) = made_in kind ns pairs ++ to_come k
all_to_make (arrays kind ns pairs vs k) = made_in kind ns pairs ++ to_come k
all_to_make (event n k) = an_event n.name ∷ to_come k
all_to_make _ = []

-- .. after the action of its head
abbrev pub all_left_to_make : Rest → List Made
all_left_to_make (bounding kind ns pairs vs h ps k) = made_in kind ns pairs ++ to_come k
all_left_to_make (arrays kind ns pairs vs k) = to_come k
all_left_to_make (event n k) = to_come k
all_left_to_make _ = []

-- the arrays among them
abbrev pub arrays_among : List Made → List DeclaredArray
arrays_among [] = []
arrays_among (an_array a ∷ ms) = a ∷ arrays_among ms
arrays_among (an_event name ∷ ms) = arrays_among ms
