-- The rows of operators on two words, where there are no two.
use Rattle.std.proofs.Common.{◌≡◌, ap, ℕ, ℤ, List, None}
use Rattle.b67_word.specs.Word.{Word, word}
use Rattle.b67_control.specs.declared.Registers.{Registers}
use Rattle.b67_table.specs.declared.InterruptKind.TheVariants.{StackUnderflow}
use Rattle.b67_table.specs.declared.Private.{Private}
use Rattle.b67_table.specs.Effect.{Effect, gives, ◌>>=◌}
use Rattle.b67_table.specs.Outcome.{interrupts, limited}
use Rattle.b67_table.specs.Private.{push, whole_of_word, bits_of}
use Rattle.b67_table.specs.PrivateRows.{pointed, wholes, logic, exchanged}
use Rattle.b67_private.specs.Parts.{length_of, part_in}
use Rattle.b67_private.specs.Performing.{TakesTwo, own_row, two_popped}

abbrev pub Then : Type 0
Then = Word → Word → Private → Effect Private

stops : (p : Private) (next : ℕ) (then : Then) → TakesTwo p None
    → limited length_of (two_popped p then >>= (λ (q : Private). gives (pointed next q))) ≡ interrupts StackUnderflow
stops p next then none = ap (λ (e : Effect Private). limited length_of (e >>= (λ (q : Private). gives (pointed next q)))) (none then)

pub wholes_stop : (made : ℤ → ℤ → Effect Word) (next : ℕ) (r : Registers) (room : List Word) → TakesTwo (part_in r room) None
    → own_row (wholes made) next (part_in r room) ≡ interrupts StackUnderflow
wholes_stop made next r room none =
    stops (part_in r room) next (λ x y q. whole_of_word y >>= (λ (a : ℤ). whole_of_word x >>= (λ (b : ℤ). made a b >>= (λ (w : Word). gives (push w q))))) none

pub logic_stops : (op : ℕ → ℕ → ℕ) (next : ℕ) (r : Registers) (room : List Word) → TakesTwo (part_in r room) None
    → own_row (logic op) next (part_in r room) ≡ interrupts StackUnderflow
logic_stops op next r room none =
    stops (part_in r room) next (λ x y q. bits_of y >>= (λ (a : ℕ). bits_of x >>= (λ (b : ℕ). gives (push (word 0 (op a b)) q)))) none

pub exchanged_stops : (next : ℕ) (r : Registers) (room : List Word) → TakesTwo (part_in r room) None → own_row exchanged next (part_in r room) ≡ interrupts StackUnderflow
exchanged_stops next r room none = stops (part_in r room) next (λ x y q. gives (push y (push x q))) none
