-- What the calls on a private part answer.
use Rattle.std.specs.Prelude.{Bool, true, false, bit_and, bit_or, ◌≡◌, ◌⊎◌, ℕ, ◌+◌, ◌<◌, ◌≤◌, [], ◌∷◌, drop, Option, Some, None, Result, Ok, Err}
use Rattle.b67_word.specs.declared.Place.{Place}
use Rattle.b67_word.specs.Word.{Word}
use Rattle.b67_control.specs.declared.Registers.{Registers}
use Rattle.b67_control.specs.Control.{as_irw}
use Rattle.b67_store.specs.Store.{stack_limit}
use Rattle.b67_table.specs.Valid.{IsHeld}
use Rattle.b67_table.specs.declared.InterruptKind.TheVariants.{StackUnderflow, InvalidOperand}
use Rattle.b67_table.specs.declared.Private.{Private}
use Rattle.b67_table.specs.Effect.{Effect, ◌>>=◌}
use Rattle.b67_table.specs.Effect as effects
use Rattle.b67_table.specs.Outcome.{Outcome, gives, faults, interrupts, limit, limited}
use Rattle.b67_table.specs.Private.{display_at, floor, pop, bits_of}
use Rattle.b67_table.specs.PrivateRows.{onward, agreement, stuffed}
use Rattle.b67_private.specs.declared.Stop.{Stop}
use Rattle.b67_private.specs.declared.Stop.TheVariants as stops
use Rattle.b67_private.specs.declared.rows.Logic.{Logic}
use Rattle.b67_private.specs.declared.rows.Logic.TheVariants as logics
use Rattle.b67_private.specs.Parts.{length_of, is_new}

abbrev pub stopped : Stop → Outcome Private
stopped (stops.Fault kind) = faults kind
stopped (stops.Interrupt kind) = interrupts kind
stopped stops.StackLimit = limit

-- a room of so many words has one above those of a part, or has all that a stack may have
abbrev pub HasPlace : ℕ → Private → Type 0
HasPlace size p = (p.regs.s < size) ⊎ (size ≡ stack_limit)

-- what stops an operator in a room of so many words is what the table gives; the limit comes only where the room has no word above those of the part
abbrev pub StopsBy : ℕ → Outcome Private → Private → Stop → Type 0
StopsBy size outcome old stops.StackLimit = (size ≤ old.regs.s) × (size ≡ stack_limit → outcome ≡ limit)
StopsBy size outcome old stop = outcome ≡ stopped stop

-- what comes of an operator in a room of so many words is what the table gives: the new part, which the room holds, or a stop that changes nothing
abbrev pub PrivatePerforms : ℕ → Outcome Private → Private → Result (Unit {0}) Stop → Private → Type 0
PrivatePerforms size outcome old (Ok _) new = (outcome ≡ gives new) × (new.regs.s ≤ size)
PrivatePerforms size outcome old (Err stop) new = StopsBy size outcome old stop × (new ≡ old)

-- what a row that leaves the pointer after itself gives, with the limit of a stack
abbrev pub own_row : (Private → Effect Private) → ℕ → Private → Outcome Private
own_row row next p = limited length_of (onward row next p)

-- the word on top, which lies in the private part, or there is none
abbrev pub TakesOne : Private → Result Word Stop → Type 0
TakesOne p (Ok x) = (p.words ≡ x ∷ drop 1 p.words) × (floor p.regs < p.regs.s)
TakesOne p (Err stop) = (stop ≡ stops.Interrupt StackUnderflow) × (pop p ≡ effects.interrupts StackUnderflow)

-- what follows the words that are taken off
abbrev pub two_popped : Private → (Word → Word → Private → Effect Private) → Effect Private
two_popped p then = pop p >>= (λ (x : Word × Private). pop x.1 >>= (λ (y : Word × Private). then x.0 y.0 y.1))

-- the two words on top, which lie in the private part, the top one first, or there are no two
abbrev pub TakesTwo : Private → Option (Word × Word) → Type 0
TakesTwo p (Some t) = (p.words ≡ t.0 ∷ t.1 ∷ drop 2 p.words) × (floor p.regs + 1 < p.regs.s)
TakesTwo p None = (then : Word → Word → Private → Effect Private) → two_popped p then ≡ effects.interrupts StackUnderflow

-- the registers with S and the pointer at these places
abbrev pub set_to : ℕ → ℕ → Registers → Registers
set_to s place r = record r { s = s; place = place }

-- what is made of the bits of two operands
abbrev pub bits_by : Logic → ℕ → ℕ → ℕ
bits_by logics.Both = bit_and
bits_by logics.Either = bit_or
bits_by logics.Agreement = agreement

-- the bits of an operand, or the word is none
abbrev pub OperandHolds : Word → Option ℕ → Type 0
OperandHolds w (Some bits) = bits_of w ≡ effects.gives bits
OperandHolds w None = bits_of w ≡ effects.interrupts InvalidOperand

-- what the display of these registers names, a reference can hold
pub record AreSeen (r : Registers) : Type 0 where
  pub seen : (level : ℕ) (f : Place) → display_at r level ≡ Some f → IsHeld f

-- an IRW is stuffed by these registers, and a SIRW stays
abbrev pub stuffed_in : Registers → Word → Effect Word
stuffed_in r w = stuffed (record { regs = r; words = [] }) w (as_irw w)

-- the word that an effect gives, or the stop
abbrev pub Stuffs : Effect Word → Result Word Stop → Type 0
Stuffs effect (Ok w) = effect ≡ effects.gives w
Stuffs effect (Err stop) = (stop ≡ stops.Interrupt InvalidOperand) × (effect ≡ effects.interrupts InvalidOperand)

-- whether the part is the new one that the table gives; where the table gives none, or the room has no word for it, it is as it was
abbrev pub Steps : ℕ → Outcome Private → Private → Bool → Private → Type 0
Steps size outcome old true new = (outcome ≡ gives new) × (new.regs.s ≤ size)
Steps size outcome old false new = (HasPlace size old → is_new outcome ≡ false) × (new ≡ old)
