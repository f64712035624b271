-- How a cell is shown: a line with its name, and of an array a line more for each element.
use Rattle.std.specs.Prelude.{ℕ, ◌+◌, ◌/◌, ◌%◌, ℤ, pos, ◌+ℤ◌, Bool, true, false, List, [], ◌∷◌, ◌++◌, codes}
use Rattle.std.specs.List.{flat_map}
use Rattle.std.specs.Fmt.{decimal}
use Rattle.b67_list.specs.Lines.{digits_of}
use Rattle.b67_deeds.specs.Events.{EventState}
use Rattle.algol_tree.specs.declared.token.Spot.{Spot}
use Rattle.algol_tree.specs.Cells.{first_spot}
use Rattle.algol_meaning.specs.Value.{Value, number, truth, Reference, Bounds, ArrayCell, NameCell, Cell, simple, event, array, named, reference}
use Rattle.algol_meaning.specs.Arrays.{elements_of}

-- ---- the parts of a line

-- a place in the text of a source
abbrev pub spot_text : Spot → List ℕ
spot_text s = decimal s.line ++ codes ":" ++ decimal s.column

abbrev pub truth_text : Bool → List ℕ
truth_text true = codes "TRUE"
truth_text false = codes "FALSE"

abbrev pub value_text : Value → List ℕ
value_text (number z) = digits_of z
value_text (truth b) = truth_text b

abbrev pub happened_text : Bool → List ℕ
happened_text true = codes " EVENT HAPPENED"
happened_text false = codes " EVENT CLEAR"

abbrev pub available_text : Bool → List ℕ
available_text true = codes " AVAILABLE"
available_text false = codes " TAKEN"

-- a word and a number for each of these processes, in their order
abbrev pub each_text : List ℕ → List ℕ → List ℕ
each_text word ps = flat_map (λ (p : ℕ). word ++ decimal p) ps

abbrev pub bound_text : Bounds → List ℕ
bound_text b = digits_of b.low ++ codes ":" ++ digits_of b.high

-- those of further dimensions, each after a comma
abbrev pub further_bounds : List Bounds → List ℕ
further_bounds bs = flat_map (λ (b : Bounds). codes "," ++ bound_text b) bs

-- the bounds of each dimension, with commas between them
abbrev pub bounds_text : List Bounds → List ℕ
bounds_text [] = []
bounds_text (b ∷ bs) = bound_text b ++ further_bounds bs

-- the subscripts of the element of that number, from 0: elements stand row by row
abbrev pub subscripts_of : List Bounds → ℕ → List ℤ
subscripts_of [] k = []
subscripts_of (b ∷ bs) k = (b.low +ℤ pos (k / elements_of bs)) ∷ subscripts_of bs (k % elements_of bs)

-- each after a comma
abbrev pub further_text : List ℤ → List ℕ
further_text ks = flat_map (λ (k : ℤ). codes "," ++ digits_of k) ks

-- with commas between them
abbrev pub subscripts_text : List ℤ → List ℕ
subscripts_text [] = []
subscripts_text (k ∷ ks) = digits_of k ++ further_text ks

-- ---- what stands after the name

-- a variable's value, a call's result, or a value parameter's value
abbrev pub simple_text : Value → List ℕ
simple_text v = codes " = " ++ value_text v

-- an event, or that of a task: its two states, who waits for it, and who waits to procure it
abbrev pub event_text : EventState → List ℕ
event_text e = happened_text e.happened ++ available_text e.available ++ each_text (codes " WAITS ") e.waiters ++ each_text (codes " PROCURES ") e.procurers

abbrev pub array_text : ArrayCell → List ℕ
array_text a = codes " ARRAY " ++ bounds_text a.bounds

-- a cell that stands for another one: the instance of that, and its name
abbrev pub reference_text : Reference → List ℕ
reference_text r = codes " REF " ++ decimal r.instance ++ codes " " ++ r.name

-- a name parameter: the instance in which its actual stands, and where the actual's first token stands
abbrev pub actual_text : NameCell → List ℕ
actual_text n = codes " ACTUAL " ++ decimal n.instance ++ codes " " ++ spot_text (first_spot n.actual)

abbrev pub content_text : Cell → List ℕ
content_text (simple v) = simple_text v
content_text (event e) = event_text e
content_text (array a) = array_text a
content_text (reference r) = reference_text r
content_text (named n) = actual_text n

-- ---- the lines of a cell of that name

abbrev pub element_line : List ℕ → List Bounds → ℕ → Value → List ℕ
element_line name bs k v = name ++ codes "[" ++ subscripts_text (subscripts_of bs k) ++ codes "] = " ++ value_text v

-- of these elements of an array, the first of which has that number
abbrev pub element_lines : List ℕ → List Bounds → ℕ → List Value → List (List ℕ)
element_lines name bs k [] = []
element_lines name bs k (v ∷ vs) = element_line name bs k v ∷ element_lines name bs (k + 1) vs

abbrev pub elements_in : List ℕ → Cell → List (List ℕ)
elements_in name (array a) = element_lines name a.bounds 0 a.elements
elements_in name _ = []

abbrev pub cell_lines : List ℕ → Cell → List (List ℕ)
cell_lines name c = (name ++ content_text c) ∷ elements_in name c
