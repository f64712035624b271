-- Descriptors of arrays, their elements, and the making of arrays.
use Rattle.std.specs.Prelude.{ℕ, zero, suc, ◌+◌, ◌*◌, ◌&&◌, not, nat_lt, nat_le, Bool, true, false, if◌then◌else◌, ℤ, pos, negsuc, ◌-ℤ◌, List, [], ◌∷◌, ◌++◌, Option, Some, None, slice_get}
use Rattle.b67_num.specs.declared.FaultKind.TheVariants.{InvalidIndex, ArraySize, CoreFull}
use Rattle.b67_word.specs.Word.{Word, as_whole}
use Rattle.b67_control.specs.declared.Registers.{Registers}
use Rattle.b67_control.specs.declared.Descriptor.{Descriptor}
use Rattle.b67_control.specs.Control.{descriptor_word, as_descriptor}
use Rattle.b67_store.specs.Store.{Row, count_limit}
use Rattle.b67_table.specs.declared.Cell.{Cell}
use Rattle.b67_table.specs.declared.Reached.{Reached}
use Rattle.b67_table.specs.declared.InterruptKind.TheVariants.{InvalidOperand}
use Rattle.b67_table.specs.Look.{Look, found, ◌>->◌, valid}
use Rattle.b67_table.specs.References.{cell_of, reached, Two, popped_two, operand_in, invalid}
use Rattle.b67_table.specs.Program.{Test, answer, interrupt, fault, row, counted, ◌>>=◌, see, Change, open_row, write_row, Program}
use Rattle.b67_table.specs.Moves.{replaced}

-- ---- descriptors

abbrev pub is_array_descriptor : Bool → Descriptor → Bool
is_array_descriptor false d = d.presence && not d.indexed && not d.mother
is_array_descriptor true d = d.presence && not d.indexed && d.mother

abbrev pub array_in : Bool → Option Descriptor → Look Descriptor
array_in mother None = invalid
array_in mother (Some d) = if is_array_descriptor mother d then found d else invalid

abbrev pub array_by : Registers → Bool → Word → Option Cell → Look Descriptor
array_by r mother w None = array_in mother (as_descriptor w)
array_by r mother w (Some c) = reached (Some c) >-> (λ (v : Reached). array_in mother (as_descriptor v.word))

-- the descriptor of an array, with or without mother, that a word is or reaches
abbrev pub array_of : Registers → Bool → Word → Look Descriptor
array_of r mother w = array_by r mother w (cell_of r w)

abbrev pub if_indexed : Descriptor → Option Descriptor
if_indexed d = if d.indexed then Some d else None

abbrev pub indexed_in : Option Descriptor → Option Descriptor
indexed_in None = None
indexed_in (Some d) = if_indexed d

-- an indexed descriptor
abbrev pub as_indexed : Word → Option Descriptor
as_indexed w = indexed_in (as_descriptor w)

-- ---- indices

-- a subscript as an index, where it is one
abbrev pub index_in : ℤ → ℕ → Option ℕ
index_in (pos n) most = if nat_lt n most then Some n else None
index_in (negsuc n) most = None

abbrev pub index_or_fault : Option ℕ → Test ℕ
index_or_fault None = fault InvalidIndex
index_or_fault (Some n) = answer n

-- an array and a subscript
pub record Subscripted : Type 0 where
  pub array : Descriptor
  pub subscript : ℤ

-- whole y, and the descriptor that x is or reaches
abbrev pub subscripted : Registers → Bool → Look Subscripted
subscripted r mother =
    popped_two r >-> (λ (t : Two). valid (as_whole t.y) >-> (λ (z : ℤ). array_of r mother t.x >-> (λ (d : Descriptor).
    found (record { array = d; subscript = z }))))

-- ---- elements

abbrev pub word_in_row : Option Row → ℕ → Option Word
word_in_row None at = None
word_in_row (Some r) at = slice_get r.words at

-- the word at a place of a row
abbrev pub element : ℕ → ℕ → Test Word
element n at = row n (λ (found : Option Row). see (valid (word_in_row found at)))

abbrev pub if_row : Option Row → Test ℕ → Test ℕ
if_row None next = interrupt InvalidOperand
if_row (Some r) next = next

-- the element that the subscript names; the row is looked at before the subscript
abbrev pub subscripted_element : Registers → Bool → Test Word
subscripted_element r mother =
    see (subscripted r mother) >>= (λ (t : Subscripted).
    row t.array.address (λ (found : Option Row). if_row found (index_or_fault (index_in t.subscript t.array.length))) >>= (λ (at : ℕ).
    element t.array.address at))

-- ---- the rows

abbrev pub index_program : Registers → ℕ → Program
index_program r next =
    see (subscripted r false) >>= (λ (t : Subscripted). index_or_fault (index_in t.subscript t.array.length) >>= (λ (n : ℕ).
    answer (replaced r next 2 (descriptor_word (record t.array { copy = true; indexed = true; length = n })))))

abbrev pub index_and_load : Registers → ℕ → Program
index_and_load r next = subscripted_element r false >>= (λ (w : Word). see (operand_in w) >>= (λ (v : Word). answer (replaced r next 2 v)))

abbrev pub index_mother : Registers → ℕ → Program
index_mother r next =
    subscripted_element r true >>= (λ (w : Word). see (valid (as_descriptor w)) >>= (λ (d : Descriptor).
    answer (replaced r next 2 (descriptor_word (record d { copy = true })))))

-- ---- making arrays

-- how many subscripts there are from low to high, where there is one
abbrev pub extent_in : ℤ → Test ℕ
extent_in (pos n) = answer (n + 1)
extent_in (negsuc n) = fault ArraySize

abbrev pub extent : ℤ → ℤ → Test ℕ
extent low high = extent_in (high -ℤ low)

-- the extents of an array of one dimension or two
pub data Extents : Type 0 where
  one : ℕ → Extents
  two : ℕ → ℕ → Extents

abbrev pub elements : Extents → ℕ
elements (one n) = n
elements (two m n) = m * n

abbrev pub if_small : Extents → Test Extents
if_small e = if nat_le (elements e) count_limit then answer e else fault ArraySize

-- so many arrays have room beside the words that count
abbrev pub if_held : ℕ → Extents → Test Extents
if_held k e = counted (λ (n : ℕ). if nat_le (n + k * elements e) count_limit then answer e else fault CoreFull)

abbrev pub array_word : Bool → ℕ → ℕ → Word
array_word mother n address =
    descriptor_word (record { presence = true; copy = false; indexed = false; mother = mother; length = n; address = address })

-- so many rows of n words for a mother's row, from a place of it on
abbrev pub rows_made : ℕ → ℕ → ℕ → ℕ → Change → Change
rows_made zero mother at n next = next
rows_made (suc k) mother at n next = open_row n true (λ (address : ℕ). write_row mother at (array_word false n address) (rows_made k mother (at + 1) n next))

-- an array, and its descriptor
abbrev pub array_made : Extents → (Word → Change) → Change
array_made (one n) next = open_row n true (λ (address : ℕ). next (array_word false n address))
array_made (two m n) next = open_row m false (λ (address : ℕ). rows_made m address 0 n (next (array_word true m address)))

-- so many arrays, one after another, and their descriptors
abbrev pub arrays_made : ℕ → Extents → List Word → (List Word → Change) → Change
arrays_made zero e made next = next made
arrays_made (suc k) e made next = array_made e (λ (w : Word). arrays_made k e (made ++ w ∷ []) next)
