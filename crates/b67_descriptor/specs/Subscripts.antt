-- What a subscript gives of an array.
use Rattle.std.specs.Prelude.{ℕ, true, false, if◌then◌else◌, ℤ, Option, Some, None, Result, Ok, Err}
use Rattle.b67_control.specs.declared.Descriptor.{Descriptor}
use Rattle.b67_control.specs.Control.{as_descriptor}
use Rattle.b67_store.specs.Store.{Row, Rows, row_at}
use Rattle.b67_table.specs.Arrays.{is_array_descriptor, index_in, word_in_row}
use Rattle.b67_table.specs.Look.{read_as}
use Rattle.b67_descriptor.specs.declared.DescriptorFault.{DescriptorFault}
use Rattle.b67_descriptor.specs.declared.DescriptorFault.TheVariants.{InvalidIndex, InvalidOperand}

abbrev pub SubscriptAnswer : Type 0
SubscriptAnswer = Result Descriptor DescriptorFault

-- the element of an array that an index names
abbrev pub subscript_element_at : Descriptor → Option ℕ → SubscriptAnswer
subscript_element_at d None = Err InvalidIndex
subscript_element_at d (Some n) = Ok (record d { copy = true; indexed = true; length = n })

-- The element that a subscript names of an array without mother. The array comes before the subscript.
abbrev pub indexed : Descriptor → ℤ → SubscriptAnswer
indexed d at = if is_array_descriptor false d then subscript_element_at d (index_in at d.length) else Err InvalidOperand

-- a copy of a row's descriptor, which has to stand in the mother's row
abbrev pub copied : Option Descriptor → SubscriptAnswer
copied None = Err InvalidOperand
copied (Some d) = Ok (record d { copy = true })

abbrev pub row_by : Option Row → Option ℕ → SubscriptAnswer
row_by found None = Err InvalidIndex
row_by found (Some n) = copied (read_as as_descriptor (word_in_row found n))

abbrev pub if_there : Option Row → Option ℕ → SubscriptAnswer
if_there None at = Err InvalidOperand
if_there (Some r) at = row_by (Some r) at

-- The row that a subscript names of an array with a mother: the array comes first, then its row, then the subscript.
abbrev pub row_loaded : Rows → Descriptor → ℤ → SubscriptAnswer
row_loaded rows d at = if is_array_descriptor true d then if_there (row_at rows d.address) (index_in at d.length) else Err InvalidOperand
