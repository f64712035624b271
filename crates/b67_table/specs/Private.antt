-- A process's private part: its registers, and the words at its floor and above, the top first. Private operators are functions of it,
-- so that they read and write nothing else by definition.
use Rattle.std.specs.Prelude.{ℕ, ◌+◌, ◌-◌, ◌==◌, nat_lt, if◌then◌else◌, ℤ, List, [], ◌∷◌, Option, Some, None}
use Rattle.b67_word.specs.declared.Place.{Place}
use Rattle.b67_word.specs.Word.{Word, as_whole}
use Rattle.b67_control.specs.declared.Registers.{Registers}
use Rattle.b67_control.specs.Display.{place_at}
use Rattle.b67_table.specs.declared.InterruptKind.TheVariants.{InvalidOperand, StackUnderflow}
use Rattle.b67_table.specs.declared.Private.{Private}
use Rattle.b67_table.specs.Effect.{Effect, gives, interrupts, ◌>>=◌}

-- where the display register of a level points
abbrev pub display_at : Registers → ℕ → Option Place
display_at r level = place_at r.display level

abbrev pub at_or : Option Place → ℕ
at_or None = 0
at_or (Some place) = place.at

-- the displacement of the frame, which the display register of the current level names
abbrev pub frame : Registers → ℕ
frame r = at_or (display_at r r.ll)

-- where the cells of the frame end and the private part begins
abbrev pub floor : Registers → ℕ
floor r = frame r + 2 + r.cells

-- ---- taking words off and putting words on

abbrev pub top : List Word → Effect (Word × List Word)
top [] = interrupts StackUnderflow
top (w ∷ words) = gives (w, words)

-- the part with these words, and S
abbrev pub with_words : Private → ℕ → List Word → Private
with_words p s words = record { regs = record p.regs { s = s }; words = words }

abbrev pub pop : Private → Effect (Word × Private)
pop p =
    if nat_lt (floor p.regs) p.regs.s then top p.words >>= (λ (t : Word × List Word). gives (t.0, with_words p (p.regs.s - 1) t.1))
    else interrupts StackUnderflow

abbrev pub push : Word → Private → Private
push w p = with_words p (p.regs.s + 1) (w ∷ p.words)

-- ---- what a word must be

abbrev pub whole_or : Option ℤ → Effect ℤ
whole_or None = interrupts InvalidOperand
whole_or (Some z) = gives z

abbrev pub whole_of_word : Word → Effect ℤ
whole_of_word w = whole_or (as_whole w)

-- the bits of an operand
abbrev pub bits_of : Word → Effect ℕ
bits_of w = if w.tag == 0 then gives w.bits else interrupts InvalidOperand
