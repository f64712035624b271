-- What ARRAYS is asked for.
use Rattle.std.specs.Prelude.{ℕ, ◌+◌, ◌≤◌, ◌==◌, ◌||◌, Bool, ℤ, List, [], ◌∷◌, length, drop, Option, Some, None, Result, Ok, Err}
use Rattle.b67_word.specs.Word.{Word}
use Rattle.b67_control.specs.declared.Mscw.{Mscw}
use Rattle.b67_control.specs.declared.Registers.{Registers}
use Rattle.b67_store.specs.Store.{Stacks, with_push, stack_limit}
use Rattle.b67_num.specs.declared.FaultKind.TheVariants.{ArraySize, CoreFull, InvalidIndex}
use Rattle.b67_table.specs.declared.InterruptKind.TheVariants.{InvalidOperand}
use Rattle.b67_table.specs.Arguments.{no_such, wholes}
use Rattle.b67_table.specs.Arrays.{Extents, if_held}
use Rattle.b67_table.specs.Intrinsics.{Wanted, intrinsic_wanted, extents}
use Rattle.b67_table.specs.Look.{◌>->◌}
use Rattle.b67_table.specs.Program.{Program, see, ◌>>=◌}
use Rattle.b67_descriptor.specs.declared.DescriptorFault.{DescriptorFault}
use Rattle.b67_descriptor.specs.declared.DescriptorFault.TheVariants as faults
use Rattle.b67_descriptor.specs.declared.sizes.Size.{Size}
use Rattle.b67_descriptor.specs.Sizes.{extents_of}
use Rattle.b67_reach.specs.declared.Stop.{Stop}
use Rattle.b67_reach.specs.declared.Stop.TheVariants.{Interrupt, Fault}
use Rattle.b67_intrinsics.specs.declared.hindrance.Hindrance.{Hindrance}
use Rattle.b67_intrinsics.specs.Called.{arguments, mark_below}

-- ---- what is asked for

-- a count, and the bounds of one dimension or two
abbrev pub is_order : List ℤ → Bool
is_order numbers = length numbers == 3 || length numbers == 5

-- the bounds stand after the count
abbrev pub order_in : List ℤ → Option ℕ → Result Wanted Stop
order_in numbers None = Err (Interrupt InvalidOperand)
order_in numbers (Some count) = Ok (record { count = count; bounds = drop 1 numbers })

-- a size as the table's extents
abbrev pub as_extents : Result Size Stop → Result Extents Stop
as_extents (Ok size) = Ok (extents_of size)
as_extents (Err stop) = Err stop

-- a size that is held as the table's extents
abbrev pub as_held : Size → Result (Unit {0}) Stop → Result Extents Stop
as_held size (Ok u) = Ok (extents_of size)
as_held size (Err stop) = Err stop

-- what stops ARRAYS where an array has no size
abbrev pub stop_for : DescriptorFault → Stop
stop_for faults.InvalidOperand = Interrupt InvalidOperand
stop_for faults.ArraySize = Fault ArraySize
stop_for faults.CoreFull = Fault CoreFull
stop_for faults.InvalidIndex = Fault InvalidIndex
stop_for faults.NoMemory = Interrupt InvalidOperand

-- so many arrays of a size
abbrev pub as_order : Result (ℕ × Size) Hindrance → Result (ℕ × Extents) Hindrance
as_order (Ok order) = Ok (order.0, extents_of order.1)
as_order (Err hindrance) = Err hindrance

-- ---- its tests

-- the tests of ARRAYS, which go on with how many arrays, and of which extents
abbrev pub array_tests : Registers → Mscw → List Word → (ℕ × Extents → Program) → Program
array_tests r m words next =
    see (wholes words >-> intrinsic_wanted) >>= (λ (w : Wanted). see (mark_below r m) >>= (λ (lower : Mscw).
    extents w.bounds >>= (λ (e : Extents). if_held w.count e >>= (λ (held : Extents). next (w.count, held)))))

-- the same tests in a process
abbrev pub array_tests_in : Option Registers → Mscw → Stacks → (ℕ × Extents → Program) → Program
array_tests_in None m stacks next = no_such
array_tests_in (Some r) m stacks next = array_tests r m (arguments stacks r) next

-- ---- its end

-- the stack of a process has room for so many words from its mark on
abbrev pub StackHasRoom : ℕ → Option Registers → Type 0
StackHasRoom n None = ⊥
StackHasRoom n (Some r) = r.f + n ≤ stack_limit

-- the stacks with these words pushed on one, the first one first
abbrev pub pushed_on : Stacks → ℕ → List Word → Stacks
pushed_on stacks n [] = stacks
pushed_on stacks n (w ∷ words) = pushed_on (with_push stacks n w) n words
