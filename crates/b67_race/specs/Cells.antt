-- What the code keeps of the accesses of each cell.
use Rattle.std.specs.Prelude.{ℕ, zero, suc, ◌+◌, Bool, List, [], ◌∷◌, Option, Some, None}
use Rattle.std.specs.declared.cmp.Ordering.{Ordering}
use Rattle.std.specs.Ordering.{nat_cmp, ordering_then, is_eq}
use Rattle.std.specs.Cmp.Lexicographic.{slice_cmp}
use Rattle.std.specs.BTreeMap.{BTreeMap, get_by}
use Rattle.b67_race.specs.Entries.{CellName}
use Rattle.b67_race.specs.Watching.{Watch, none_yet, rivals, latest, watched}
use Rattle.b67_race.specs.declared.cells.Past.{Past}
use Rattle.b67_race.specs.declared.cells.Key.{Key}
use Rattle.b67_race.specs.declared.cells.Watched.{Watched}
use Rattle.b67_race.specs.declared.cells.Kept.{Kept}
use Rattle.b67_race.specs.declared.cells.Kept.TheVariants as kept

-- the number of an element, from 1; 0 for a cell that is no array
abbrev pub element_number_of : Option ℕ → ℕ
element_number_of None = 0
element_number_of (Some k) = k + 1

-- how a cell compares to a key
abbrev pub cell_order : CellName → Key → Ordering
cell_order c k = ordering_then (nat_cmp c.instance k.instance) (ordering_then (nat_cmp (element_number_of c.at) k.element) (slice_cmp nat_cmp c.name k.name.now))

abbrev pub as_list : Option Past → List Past
as_list None = []
as_list (Some x) = x ∷ []

abbrev pub watch_of : Watched → Watch
watch_of w = record { stores = as_list w.store; reads = w.reads.items }

-- what is kept of a cell: its accesses, or that its race has been found
pub data Standing : Type 0 where
  quiet : Watch → Standing
  raced : Standing

abbrev pub standing : Option Kept → Standing
standing None = quiet none_yet
standing (Some (kept.Quiet w)) = quiet (watch_of w)
standing (Some kept.Raced) = raced

abbrev pub standing_in : BTreeMap Key Kept → CellName → Standing
standing_in cells c = standing (get_by (cell_order c) cells)

-- ---- keys

abbrev pub at_of : ℕ → Option ℕ
at_of zero = None
at_of (suc k) = Some k

-- the cell of a key
abbrev pub cell_at_key : Key → CellName
cell_at_key k = record { instance = k.instance; name = k.name.now; at = at_of k.element }

-- whether a key is that of a cell
abbrev pub is_cell : Key → CellName → Bool
is_cell k c = is_eq (ordering_then (nat_cmp k.instance c.instance) (ordering_then (nat_cmp k.element (element_number_of c.at)) (slice_cmp nat_cmp k.name.now c.name)))

-- ---- accesses

-- the greatest rival that is apart, 0 where there is none or the race has been found
abbrev pub rival_in : Bool → (ℕ → ℕ) → Standing → ℕ
rival_in storing clock (quiet w) = latest clock (rivals storing w)
rival_in storing clock raced = 0

abbrev pub standing_with : ℕ → Watch → Standing
standing_with zero w = quiet w
standing_with (suc k) w = raced

-- how a cell stands after an access
abbrev pub standing_after : Bool → (ℕ → ℕ) → Past → Standing → Standing
standing_after storing clock now (quiet w) = standing_with (latest clock (rivals storing w)) (watched storing now w)
standing_after storing clock now raced = raced
