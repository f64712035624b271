-- Subscripts, elements and the making of arrays.
use Rattle.std.specs.Prelude.{ℕ, ◌+◌, ◌*◌, nat_lt, ◌&&◌, ◌||◌, if◌then◌else◌, ℤ, pos, ◌+ℤ◌, ◌-ℤ◌, int_lt, int_le, nat_abs, Bool, true, false, List, [], ◌∷◌, length, replicate, Option, Some, None, slice_get, slice_set}
use Rattle.algol_tree.specs.declared.tree.Kind.{Kind}
use Rattle.algol_tree.specs.declared.tree.Named.{Named}
use Rattle.algol_tree.specs.Plain.{PPair}
use Rattle.algol_meaning.specs.declared.TheConstants.{MOST_ELEMENTS}
use Rattle.algol_meaning.specs.Value.{Value, number, whole_of, initial_value, Bounds, ArrayCell, Cell, array}
use Rattle.algol_tree.specs.Sorts as sort
use Rattle.algol_tree.specs.Sorts.{Sort}
use Rattle.algol_meaning.specs.World.{NamedCell, Instance, World}

-- how many subscripts lie within bounds
abbrev pub size_of : Bounds → ℕ
size_of b = if int_le b.low b.high then nat_abs (b.high -ℤ b.low) + 1 else 0

abbrev pub elements_of : List Bounds → ℕ
elements_of [] = 1
elements_of (b ∷ bs) = size_of b * elements_of bs

abbrev pub some_empty : List Bounds → Bool
some_empty [] = false
some_empty (b ∷ bs) = int_lt b.high b.low || some_empty bs

-- a subscript outside the bounds has no place
abbrev pub placed : Bounds → ℤ → Option ℕ
placed b i = if int_le b.low i && int_le i b.high then Some (nat_abs (i -ℤ b.low)) else None

abbrev pub placed_in : Option Bounds → ℤ → Option ℕ
placed_in None i = None
placed_in (Some b) i = placed b i

abbrev pub moved_to : Option Bounds → Option ℤ → ℤ → ℤ
moved_to (Some b) (Some low) i = i +ℤ (b.low -ℤ low)
moved_to _ _ i = i

-- a subscript of a formal array is moved by the difference of the lower bounds
abbrev pub moved : Sort → Option Bounds → ℕ → ℤ → ℤ
moved (sort.formal_array lows) b dimension i = moved_to b (slice_get lows dimension) i
moved _ b dimension i = i

-- the place of the subscript that comes after these, from 0
abbrev pub subscript_place : Sort → ArrayCell → List ℕ → ℤ → Option ℕ
subscript_place s a ks i = placed_in (slice_get a.bounds (length ks)) (moved s (slice_get a.bounds (length ks)) (length ks) i)

-- the number of an element, row by row
abbrev pub flat : ℕ → List Bounds → List ℕ → ℕ
flat before bs [] = before
flat before [] (k ∷ ks) = before
flat before (b ∷ bs) (k ∷ ks) = flat (before * size_of b + k) bs ks

abbrev pub or_number : Option Value → Value
or_number (Some v) = v
or_number None = number (pos 0)

abbrev pub element_at : ArrayCell → List ℕ → Value
element_at a ks = or_number (slice_get a.elements (flat 0 a.bounds ks))

abbrev pub with_element : ArrayCell → List ℕ → Value → ArrayCell
with_element a ks v = record a { elements = slice_set a.elements (flat 0 a.bounds ks) v }

-- ---- live elements

abbrev pub size_of_cell : Cell → ℕ
size_of_cell (array a) = elements_of a.bounds
size_of_cell _ = 0

abbrev pub size_of_cells : List NamedCell → ℕ
size_of_cells [] = 0
size_of_cells (c ∷ cs) = size_of_cell c.cell + size_of_cells cs

abbrev pub size_unless : Bool → ℕ → ℕ
size_unless true n = 0
size_unless false n = n

abbrev pub live_elements : List Instance → ℕ
live_elements [] = 0
live_elements (x ∷ xs) = size_unless x.left (size_of_cells x.cells) + live_elements xs

-- ---- the making of arrays

-- lower bounds as they stand, upper bounds by their values
abbrev pub bounds_of : List PPair → List Value → List Bounds
bounds_of [] vs = []
bounds_of (p ∷ ps) [] = []
bounds_of (p ∷ ps) (v ∷ vs) = record { low = p.low; high = whole_of v } ∷ bounds_of ps vs

abbrev pub new_array : Kind → List Bounds → Cell
new_array kind bs = array (record { bounds = bs; elements = replicate (elements_of bs) (initial_value kind) })

abbrev pub new_arrays : Kind → List Bounds → List Named → List NamedCell
new_arrays kind bs [] = []
new_arrays kind bs (n ∷ ns) = record { name = n.name; cell = new_array kind bs } ∷ new_arrays kind bs ns

abbrev pub has_wrong_size : List Bounds → Bool
has_wrong_size bs = some_empty bs || nat_lt MOST_ELEMENTS (elements_of bs)

abbrev pub has_no_room : World → List Bounds → List Named → Bool
has_no_room w bs ns = nat_lt MOST_ELEMENTS (live_elements w.instances + elements_of bs * length ns)
