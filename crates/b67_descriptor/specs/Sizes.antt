-- How many elements an array has.
use Rattle.std.specs.Prelude.{◌≡◌, ◌≢◌, length, ℕ, ◌-◌, ◌*◌, ◌<◌, ◌≤◌, ℤ, pos, negsuc, List, [], ◌∷◌, Option, Some, None, Result, Ok, Err}
use Rattle.b67_num.specs.declared.FaultKind.TheVariants as kinds
use Rattle.b67_store.specs.Store.{count_limit}
use Rattle.b67_table.specs.declared.InterruptKind.TheVariants as stops
use Rattle.b67_table.specs.Effect.{Effect, gives, faults, interrupts}
use Rattle.b67_table.specs.Arrays.{Extents, one, two}
use Rattle.b67_descriptor.specs.declared.DescriptorFault.{DescriptorFault}
use Rattle.b67_descriptor.specs.declared.DescriptorFault.TheVariants.{InvalidIndex, ArraySize, CoreFull, InvalidOperand, NoMemory}
use Rattle.b67_descriptor.specs.declared.sizes.Size.{Size}
use Rattle.b67_descriptor.specs.declared.sizes.Size.TheVariants as sizes

-- the bounds of each dimension, one after another, as ARRAYS has them
abbrev pub numbers_of_bounds : List (ℤ × ℤ) → List ℤ
numbers_of_bounds [] = []
numbers_of_bounds (b ∷ bounds) = b.0 ∷ b.1 ∷ numbers_of_bounds bounds

abbrev pub extents_of : Size → Extents
extents_of (sizes.One n) = one n
extents_of (sizes.Two m n) = two m n

-- each dimension has an element, and the array as many as a store may have
abbrev pub IsSize : Size → Type 0
IsSize (sizes.One n) = (1 ≤ n) × (n ≤ count_limit)
IsSize (sizes.Two m n) = (1 ≤ m) × (1 ≤ n) × (m * n ≤ count_limit)

-- the size that the table's tests give for these bounds, or what they stop with
abbrev pub Sizes : Effect Extents → Result Size DescriptorFault → Type 0
Sizes effect (Ok size) = effect ≡ gives (extents_of size)
Sizes effect (Err ArraySize) = effect ≡ faults kinds.ArraySize
Sizes effect (Err InvalidOperand) = effect ≡ interrupts stops.InvalidOperand
Sizes effect (Err InvalidIndex) = ⊥
Sizes effect (Err CoreFull) = ⊥
Sizes effect (Err NoMemory) = ⊥

-- from one number to the other there are none, or more than a store may have
abbrev pub TooWide : ℤ → Type 0
TooWide (pos more) = count_limit ≤ more
TooWide (negsuc n) = Unit {0}

abbrev pub Extent : ℤ → Option ℕ → Type 0
Extent more (Some n) = (more ≡ pos (n - 1)) × (1 ≤ n) × (n ≤ count_limit)
Extent more None = TooWide more

-- what so many rows and columns give
abbrev pub SizesTwo : ℕ → ℕ → Result Size DescriptorFault → Type 0
SizesTwo m n (Ok size) = (size ≡ sizes.Two m n) × (m * n ≤ count_limit)
SizesTwo m n (Err fault) = (fault ≡ ArraySize) × (count_limit < m * n)

abbrev pub AreTwo : List (ℤ × ℤ) → Option ((ℤ × ℤ) × (ℤ × ℤ)) → Type 0
AreTwo bounds (Some b) = bounds ≡ b.0 ∷ b.1 ∷ []
AreTwo bounds None = length bounds ≢ 2

abbrev pub AreOne : List (ℤ × ℤ) → Option (ℤ × ℤ) → Type 0
AreOne bounds (Some b) = bounds ≡ b ∷ []
AreOne bounds None = length bounds ≢ 1
