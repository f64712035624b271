-- How a line is made, phrase by phrase.
use Rattle.std.specs.Prelude.{◌≡◌, ℕ, ◌≤◌, ℤ, List, length, drop, Option, Some, None, Result, Ok, Err}
use Rattle.b67_control.specs.declared.Mscw.{Mscw}
use Rattle.b67_control.specs.declared.Registers.{Registers}
use Rattle.b67_store.specs.Store.{Stacks}
use Rattle.b67_segment.specs.declared.code.Phrase.{Phrase}
use Rattle.b67_segment.specs.declared.code.Code.{Code}
use Rattle.b67_word.specs.Word.{Word}
use Rattle.b67_table.specs.declared.InterruptKind.TheVariants.{InvalidOperand}
use Rattle.b67_table.specs.Arguments.{no_such, wholes_in, wholes, if_chained}
use Rattle.b67_table.specs.Look.{valid, ◌>->◌}
use Rattle.b67_table.specs.Program.{Program, see, ◌>>=◌}
use Rattle.b67_table.specs.Lines.{before, phrase_line, line_for}
use Rattle.b67_reach.specs.declared.Stop.TheVariants.{Interrupt}
use Rattle.b67_intrinsics.specs.declared.hindrance.Hindrance.{Hindrance}
use Rattle.b67_intrinsics.specs.declared.hindrance.Hindrance.TheVariants.{Stopped, NoMemory}
use Rattle.b67_intrinsics.specs.Called.{arguments}

-- one phrase makes a text longer, and takes so many of the items; or there is no item that it could take
abbrev pub AddsPhrase : Phrase → List ℤ → List ℕ → List ℕ → Option ℕ → Type 0
AddsPhrase phrase items old new None = (next : List ℤ → Option (List ℕ)) → phrase_line phrase items next ≡ None
AddsPhrase phrase items old new (Some taken) =
    (taken ≤ length items) × ((next : List ℤ → Option (List ℕ)) → before old (phrase_line phrase items next) ≡ before new (next (drop taken items)))

-- the line that the arguments ask for
abbrev pub line_in : Code → Option (List ℤ) → Option (List ℕ)
line_in code None = None
line_in code (Some numbers) = line_for code numbers

-- it is given; or there is none, or there is no memory
abbrev pub LineGiven : Code → List Word → Result (List ℕ) Hindrance → Type 0
LineGiven code words (Ok bytes) = line_in code (wholes_in words) ≡ Some bytes
LineGiven code words (Err (Stopped stop)) = (stop ≡ Interrupt InvalidOperand) × (line_in code (wholes_in words) ≡ None)
LineGiven code words (Err NoMemory) = Unit {0}

-- the tests of WRITE, which go on with the line
abbrev pub line_tests : Code → Registers → Mscw → List Word → (List ℕ → Program) → Program
line_tests code r m words next =
    see (wholes words >-> (λ (numbers : List ℤ). valid (line_for code numbers))) >>= (λ (bytes : List ℕ). if_chained r m (next bytes))

-- the same tests in a process
abbrev pub line_tests_in : Code → Option Registers → Mscw → Stacks → (List ℕ → Program) → Program
line_tests_in code None m stacks next = no_such
line_tests_in code (Some r) m stacks next = line_tests code r m (arguments stacks r) next
