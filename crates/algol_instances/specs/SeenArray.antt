-- Numbers as the code has them, where a greater one is the greatest, and the bounds of formal arrays.
use Rattle.std.specs.Prelude.{ℕ, ℤ, ◌-◌, ◌^◌, min, List, Option, Some, None, slice_get}
use Rattle.algol_tree.specs.Sorts.{Sort}
use Rattle.algol_cells.specs.SeenScope.{lows_in_sort}

abbrev pub capped : ℕ → ℕ
capped n = min n (2 ^ 64 - 1)

abbrev pub base_in : Option (List ℤ) → ℕ → Option ℤ
base_in None dimension = None
base_in (Some lows) dimension = slice_get lows dimension

-- the lower bound from which the subscripts of a formal array count
abbrev pub base_of : Sort → ℕ → Option ℤ
base_of s dimension = base_in (lows_in_sort s) dimension
