-- What is found of arrays and subscripts, as answers of calls.
use Rattle.std.specs.Prelude.{ℕ, ℤ, if◌then◌else◌, Bool, true, Option, Some, None, Result, Ok, Err}
use Rattle.b67_num.specs.declared.FaultKind.TheVariants.{InvalidIndex}
use Rattle.b67_control.specs.declared.Descriptor.{Descriptor}
use Rattle.b67_word.specs.Word.{Word}
use Rattle.b67_control.specs.declared.Registers.{Registers}
use Rattle.b67_control.specs.Control.{as_descriptor, descriptor_word}
use Rattle.b67_store.specs.Store.{Row}
use Rattle.b67_table.specs.Look.{valid}
use Rattle.b67_table.specs.Moves.{replaced}
use Rattle.b67_table.specs.Program.{Test, row, Program, answer, see, ◌>>=◌}
use Rattle.b67_table.specs.declared.InterruptKind.{InterruptKind}
use Rattle.b67_table.specs.declared.InterruptKind.TheVariants.{InvalidOperand}
use Rattle.b67_table.specs.Arrays.{is_array_descriptor, Subscripted, if_row, index_or_fault, index_in, element}
use Rattle.b67_reach.specs.declared.Stop.{Stop}
use Rattle.b67_reach.specs.declared.Stop.TheVariants.{Interrupt, Fault}

-- an array and a subscript as a pair
abbrev pub as_pair : Result Subscripted InterruptKind → Result (Descriptor × ℤ) InterruptKind
as_pair (Ok t) = Ok (t.array, t.subscript)
as_pair (Err kind) = Err kind

abbrev pub array_found : Bool → Option Descriptor → Result Descriptor Stop
array_found mother None = Err (Interrupt InvalidOperand)
array_found mother (Some d) = if is_array_descriptor mother d then Ok d else Err (Interrupt InvalidOperand)

abbrev pub subscript_found : Option ℕ → Result ℕ Stop
subscript_found None = Err (Fault InvalidIndex)
subscript_found (Some n) = Ok n

-- the element of an array that a subscript names
abbrev pub test_element_at : Descriptor → ℤ → Test Word
test_element_at d z = row d.address (λ (found : Option Row). if_row found (index_or_fault (index_in z d.length))) >>= (λ (at : ℕ). element d.address at)

-- a copy of the descriptor that a word is takes the place of the two words on top
abbrev pub copy_replaces : Registers → ℕ → Word → Program
copy_replaces r next w = see (valid (as_descriptor w)) >>= (λ (d : Descriptor). answer (replaced r next 2 (descriptor_word (record d { copy = true }))))
