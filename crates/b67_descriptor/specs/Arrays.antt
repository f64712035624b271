-- The making of arrays in a store.
use Rattle.std.specs.Prelude.{◌≡◌, ◌≢◌, ℕ, zero, suc, ◌+◌, ◌-◌, ◌<◌, ◌≤◌, if◌then◌else◌, Bool, true, false, Option, Some, None, Result, Ok, Err, slice_get, is_some, ℤ, List, [], map}
use Rattle.b67_word.specs.Word.{Word}
use Rattle.b67_control.specs.declared.Descriptor.{Descriptor}
use Rattle.b67_control.specs.Control.{descriptor_word, as_descriptor}
use Rattle.b67_store.specs.Store.{counted_words, count_limit, Rows, row_at, row_words, with_row_word, opened_at, least_free, zero_row}
use Rattle.b67_table.specs.Image.{Image, with_rows}
use Rattle.b67_num.specs.declared.FaultKind.TheVariants as kinds
use Rattle.b67_table.specs.declared.InterruptKind.TheVariants as stops
use Rattle.b67_table.specs.Effect.{Effect, gives, faults, interrupts}
use Rattle.b67_table.specs.Intrinsics.{extents}
use Rattle.b67_descriptor.specs.declared.DescriptorFault.{DescriptorFault}
use Rattle.b67_descriptor.specs.declared.DescriptorFault.TheVariants.{InvalidIndex, ArraySize, CoreFull, InvalidOperand, NoMemory}
use Rattle.b67_table.specs.Look.{read_as}
use Rattle.b67_table.specs.Program.{Test, asked, ◌>>=◌, Change, changed}
use Rattle.b67_table.specs.Arrays.{Extents, one, two, elements, if_held, rows_made, array_made, arrays_made, array_word}
use Rattle.b67_descriptor.specs.Sizes.{numbers_of_bounds}

-- the array's own descriptor, of a row or of a mother's row
abbrev pub array_descriptor : Bool → ℕ → ℕ → Descriptor
array_descriptor mother n address = record { presence = true; copy = false; indexed = false; mother = mother; length = n; address = address }

abbrev pub descriptor_by : Extents → ℕ → Descriptor
descriptor_by (one n) address = array_descriptor false n address
descriptor_by (two m n) address = array_descriptor true m address

-- The table's making of an array, in every image with the rows of before, goes on with the descriptor in the image with the rows of after.
abbrev pub Makes : Extents → Rows → Rows → Descriptor → Type 0
Makes e before after d =
    (p : ℕ) (img : Image) (next : Word → Change) → img.rows ≡ before
    → changed p (array_made e next) img ≡ changed p (next (descriptor_word d)) (with_rows img after)

-- at every number the same row is open, or none
abbrev pub SameRows : Rows → Rows → Type 0
SameRows before after = (n : ℕ) → row_at after n ≡ row_at before n

-- ---- while the rows of a mother are opened

-- the row that the mother's row describes at a place
abbrev pub address_in : Option Descriptor → Option ℕ
address_in None = None
address_in (Some d) = Some d.address

abbrev pub child : Rows → ℕ → ℕ → Option ℕ
child rows mother at = address_in (read_as as_descriptor (slice_get (row_words rows mother) at))

-- at a place of the mother's row a row is described that was not open before, and is not the mother's
pub record IsChild (before rows : Rows) (mother at : ℕ) : Type 0 where
  pub address : ℕ
  pub described : child rows mother at ≡ Some address
  pub fresh : row_at before address ≡ None
  pub apart : address ≢ mother

-- the rows differ from those before by the mother's row and by the rows that it describes from one place up to another
pub record HasMore (before rows : Rows) (mother from to : ℕ) : Type 0 where
  pub fresh : row_at before mother ≡ None
  pub children : (at : ℕ) → from ≤ at → at < to → IsChild before rows mother at
  pub others : (x : ℕ) → x ≢ mother → ((at : ℕ) → from ≤ at → at < to → child rows mother at ≡ Some x → ⊥) → row_at rows x ≡ row_at before x

-- each of them is open
abbrev pub AreOpen : Rows → ℕ → ℕ → Type 0
AreOpen rows mother to = (at x : ℕ) → at < to → child rows mother at ≡ Some x → is_some (row_at rows x) ≡ true

-- the rows of a mother up to a place are made as the table makes them: what is left to be made is the rest
abbrev pub MakesRows : ℕ → ℕ → ℕ → Rows → Rows → ℕ → Type 0
MakesRows m mother n before rows at =
    (p : ℕ) (img : Image) (next : Change) → changed p (rows_made m mother 0 n next) (with_rows img before) ≡ changed p (rows_made (m - at) mother at n next) (with_rows img rows)

-- the rows with one more of so many words, which the mother's row describes at a place
abbrev pub row_added : Rows → ℕ → ℕ → ℕ → Rows
row_added rows mother at n =
    with_row_word (opened_at rows (least_free rows) (zero_row n true)) mother at (array_word false n (least_free rows))

-- ---- so many arrays

-- how many rows an array's row describes: none but a mother's
abbrev pub described : Descriptor → ℕ
described d = if d.mother then d.length else 0

-- the rows differ from those before by the rows of an array
abbrev pub HasArray : Rows → Rows → Descriptor → Type 0
HasArray before rows d = HasMore before rows d.address 0 (described d)

-- the rows differ from those before by the rows of the first so many of these arrays, one after another
abbrev pub HaveArrays : Rows → List Descriptor → ℕ → Rows → Type 0
HaveArrays before arrays zero rows = SameRows before rows
HaveArrays before arrays (suc n) rows = (mid : Rows) × HaveArrays before arrays n mid × ((d : Descriptor) → slice_get arrays n ≡ Some d → HasArray mid rows d)

-- The table's making of so many arrays, in every image with the rows of before, goes on with their descriptors in the image with the
-- rows of after.
abbrev pub MakesArrays : ℕ → Extents → Rows → Rows → List Descriptor → Type 0
MakesArrays k e before after arrays =
    (p : ℕ) (img : Image) (next : List Word → Change) → img.rows ≡ before
    → changed p (arrays_made k e [] next) img ≡ changed p (next (map descriptor_word arrays)) (with_rows img after)

-- ---- the tests

-- the words that count and the elements are no more than a store may hold
abbrev pub StoreHolds : Rows → Extents → Bool → Type 0
StoreHolds rows e true = counted_words rows + elements e ≤ count_limit
StoreHolds rows e false = count_limit < counted_words rows + elements e

-- the table's tests for one array with these bounds
abbrev pub wanted_extents : List (ℤ × ℤ) → Test Extents
wanted_extents bounds = extents (numbers_of_bounds bounds) >>= if_held 1

-- in every image with these rows they answer this
abbrev pub ExtentsAnswer : List (ℤ × ℤ) → Rows → Effect Extents → Type 0
ExtentsAnswer bounds rows effect = (img : Image) → img.rows ≡ rows → asked img (wanted_extents bounds) ≡ effect

-- the array is made as the table makes it, and its descriptor is the table's
pub record ArrayIsMade (bounds : List (ℤ × ℤ)) (before after : Rows) (d : Descriptor) : Type 0 where
  pub size : Extents
  pub tested : ExtentsAnswer bounds before (gives size)
  pub made : Makes size before after d
  pub described : d ≡ descriptor_by size (least_free before)

abbrev pub Allocates : List (ℤ × ℤ) → Rows → Rows → Result Descriptor DescriptorFault → Type 0
Allocates bounds before after (Ok d) = ArrayIsMade bounds before after d
Allocates bounds before after (Err InvalidOperand) = ExtentsAnswer bounds before (interrupts stops.InvalidOperand)
Allocates bounds before after (Err ArraySize) = ExtentsAnswer bounds before (faults kinds.ArraySize)
Allocates bounds before after (Err CoreFull) = ExtentsAnswer bounds before (faults kinds.CoreFull)
-- nothing stops the tests
Allocates bounds before after (Err NoMemory) = (size : Extents) × ExtentsAnswer bounds before (gives size)
Allocates bounds before after (Err InvalidIndex) = ⊥
