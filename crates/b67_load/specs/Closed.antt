-- A store of which all is closed, and the image with which a run begins on it.
use Rattle.std.specs.Prelude.{◌≡◌, ℕ, List, Option, None}
use Rattle.b67_store.specs.Store.{Stacks, Rows, at_number, opened_at}
use Rattle.b67_table.specs.Image.{Image}
use Rattle.b67_table.specs.Beginning.{system_stack, base_frame, first_image}

-- nothing is open at any number; where something was opened and closed, its place is left in the list
abbrev pub NoneOpen : {X : Type 0} → List (Option X) → Type 0
NoneOpen xs = (n : ℕ) → at_number xs n ≡ None

-- the first image, with the places that closed stacks and rows have left in the lists of a store
abbrev pub first_on : Stacks → Rows → Image
first_on stacks rows = record first_image { stacks = opened_at (opened_at stacks 0 system_stack) 1 base_frame; rows = rows }
