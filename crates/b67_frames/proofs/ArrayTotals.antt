-- How many elements and rows the arrays of the instances have that stand, before and after some are made.
use Rattle.std.proofs.Common.{◌≡◌, refl, ap, ℕ, zero, suc, ◌+◌, ◌*◌, ◌≤◌, List, [], ◌∷◌, ◌++◌, length, set, Some, Bool, true, false, arith}
use Rattle.algol_meaning.proofs.Cited.{elements_behind}
use Rattle.b67_list.proofs.Numbers.{none_some}
use Rattle.b67_frames.proofs.Prelude.{nat_tests, slice_get, numbered, set_numbered, Kind, Named, elements_of, size_of_cells, size_unless, live_elements, new_arrays, has_no_room, Bounds, NamedCell, Instance, World, MOST_ELEMENTS, row_limit, some_same, rows_of_bounds, rows_of_cells, live_rows}

-- ---- of cells

pub rows_behind : (cells more : List NamedCell) → rows_of_cells (cells ++ more) ≡ rows_of_cells cells + rows_of_cells more
rows_behind [] more = omega arith
rows_behind (c ∷ cells) more = omega (arith, rows_behind cells more)

module _ (kind : Kind) (bs : List Bounds) where
  pub elements_new : (ns : List Named) → size_of_cells (new_arrays kind bs ns) ≡ length ns * elements_of bs
  elements_new [] = omega arith
  elements_new (n ∷ ns) = omega (arith, elements_new ns)

  pub rows_new : (ns : List Named) → rows_of_cells (new_arrays kind bs ns) ≡ length ns * rows_of_bounds bs
  rows_new [] = omega arith
  rows_new (n ∷ ns) = omega (arith, rows_new ns)

-- ---- of instances

-- where one instance has so many more, there are so many more
module _ (total : List Instance → ℕ) (part : Instance → ℕ) (sums : (x : Instance) (xs : List Instance) → total (x ∷ xs) ≡ part x + total xs) where
  total_set : (xs : List Instance) (k : ℕ) (x y : Instance) (n : ℕ) → slice_get xs k ≡ Some x → part y ≡ part x + n → total (set xs k y) ≡ total xs + n
  total_set [] k x y n there more = none_some there
  total_set (z ∷ xs) zero x y n there more =
      let here : part z ≡ part x = ap part (some_same there) in
      omega (arith, sums y xs, sums z xs, here, more)
  total_set (z ∷ xs) (suc k) x y n there more = omega (arith, sums z (set xs k y), sums z xs, total_set xs k x y n there more)

  total_numbered : (xs : List Instance) (i : ℕ) (x y : Instance) (n : ℕ) → numbered xs i ≡ Some x → part y ≡ part x + n → total (set_numbered xs i y) ≡ total xs + n
  total_numbered xs zero x y n there more = none_some there
  total_numbered xs (suc k) x y n there more = total_set xs k x y n there more

pub elements_grow : (xs : List Instance) (i : ℕ) (x y : Instance) (n : ℕ) → numbered xs i ≡ Some x → size_unless y.left (size_of_cells y.cells) ≡ size_unless x.left (size_of_cells x.cells) + n →
    live_elements (set_numbered xs i y) ≡ live_elements xs + n
elements_grow xs i x y n there more = total_numbered live_elements (λ (z : Instance). size_unless z.left (size_of_cells z.cells)) (λ z zs. refl) xs i x y n there more

pub rows_grow : (xs : List Instance) (i : ℕ) (x y : Instance) (n : ℕ) → numbered xs i ≡ Some x → size_unless y.left (rows_of_cells y.cells) ≡ size_unless x.left (rows_of_cells x.cells) + n →
    live_rows (set_numbered xs i y) ≡ live_rows xs + n
rows_grow xs i x y n there more = total_numbered live_rows (λ (z : Instance). size_unless z.left (rows_of_cells z.cells)) (λ z zs. refl) xs i x y n there more

-- ---- how many there may be

unless_few : (b : Bool) (m n : ℕ) → (b ≡ false → m ≤ 2 * n) → size_unless b m ≤ 2 * size_unless b n
unless_few true m n few = omega arith
unless_few false m n few = few refl

few_rows : (xs : List Instance) → ((k : ℕ) (x : Instance) → slice_get xs k ≡ Some x → x.left ≡ false → rows_of_cells x.cells ≤ 2 * size_of_cells x.cells) → live_rows xs ≤ 2 * live_elements xs
few_rows [] few = omega arith
few_rows (x ∷ xs) few =
    omega (arith, unless_few x.left (rows_of_cells x.cells) (size_of_cells x.cells) (few 0 x refl), few_rows xs (λ k y there. few (suc k) y there))

-- where no instance has more than two rows for each element, and there is room for new elements, there are numbers for their rows
pub numbers_left : (w : World) (bs : List Bounds) (ns : List Named) →
    ((i : ℕ) (x : Instance) → numbered w.instances i ≡ Some x → x.left ≡ false → rows_of_cells x.cells ≤ 2 * size_of_cells x.cells) → rows_of_bounds bs ≤ 2 * elements_of bs → has_no_room w bs ns ≡ false →
    live_rows w.instances + length ns * rows_of_bounds bs ≤ row_limit
numbers_left w bs ns few small room =
    omega (arith, few_rows w.instances (λ k x there. few (suc k) x there), product (length ns) (rows_of_bounds bs) (2 * elements_of bs) small, within)
  where
    product : (k m n : ℕ) → m ≤ n → k * m ≤ k * n
    product k m n h = grind arith

    within : live_elements w.instances + elements_of bs * length ns ≤ MOST_ELEMENTS
    within = grind (arith, nat_tests)

-- an instance with new arrays has no more than two rows for each element either
pub still_few : (kind : Kind) (bs : List Bounds) (ns : List Named) (cells : List NamedCell) → rows_of_cells cells ≤ 2 * size_of_cells cells → rows_of_bounds bs ≤ 2 * elements_of bs →
    rows_of_cells (cells ++ new_arrays kind bs ns) ≤ 2 * size_of_cells (cells ++ new_arrays kind bs ns)
still_few kind bs ns cells few small =
    omega (arith, few, rows_behind cells (new_arrays kind bs ns), elements_behind cells (new_arrays kind bs ns), rows_new kind bs ns, elements_new kind bs ns, product (length ns) (rows_of_bounds bs) (2 * elements_of bs) small)
  where
    product : (k m n : ℕ) → m ≤ n → k * m ≤ k * n
    product k m n h = grind arith
