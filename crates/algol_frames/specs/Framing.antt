-- The cells of each block, and the limits on blocks.
use Rattle.std.specs.Prelude.{ℕ, ◌+◌, ◌==◌, nat_lt, if◌then◌else◌, List, [], ◌∷◌, ◌++◌, map, Option, Some, None}
use Rattle.std.specs.declared.alloc.Global.{Global}
use Rattle.std.specs.declared.vec.Vec.{Vec}
use Rattle.std.specs.Ordering.{nat_cmp}
use Rattle.std.specs.BTreeMap.{BTreeMap, get_by}
use Rattle.algol_tree.specs.declared.TheConstants.{MOST_BLOCK_CELLS, MOST_LEVEL}
use Rattle.algol_tree.specs.declared.token.Spot.{Spot}
use Rattle.algol_tree.specs.Names.{if_so, place_beyond}
use Rattle.algol_frames.specs.declared.found.Cell.{Cell}
use Rattle.algol_frames.specs.declared.found.Block.{Block}

abbrev items_or : Option (Vec Cell Global) → List Cell
items_or None = []
items_or (Some v) = v.items

-- the cells that a table has of this block
abbrev pub framed_cells_in : BTreeMap ℕ (Vec Cell Global) → ℕ → List Cell
framed_cells_in table block = items_or (get_by (nat_cmp block) table)

abbrev pub those_in : List Cell → ℕ → List Cell
those_in [] block = []
those_in (c ∷ cs) block = if c.block == block then c ∷ those_in cs block else those_in cs block

abbrev pub deep_place : Block → List Spot
deep_place b = if_so (nat_lt MOST_LEVEL b.level) b.spot

abbrev pub procedure_place : Block → List Spot
procedure_place b = if_so b.is_procedure b.spot

abbrev pub places_of : List Cell → List Spot
places_of cs = map (λ (c : Cell). c.spot) cs

-- of each block, the blocks having numbers from n on, the first cell beyond the limit
abbrev pub beyond_from : BTreeMap ℕ (Vec Cell Global) → ℕ → List Block → List Spot
beyond_from table n [] = []
beyond_from table n (b ∷ bs) = place_beyond MOST_BLOCK_CELLS (places_of (framed_cells_in table n)) ++ beyond_from table (n + 1) bs
