-- The rows of the private operators: what each does to the private part, and where it leaves the pointer.
use Rattle.std.specs.Prelude.{ℕ, ◌+◌, ◌-◌, ◌^◌, ◌%◌, nat_lt, nat_le, nat_eq, if◌then◌else◌, Bool, true, false, ℤ, Option, Some, None, Result, Ok, Err, bit_xor}
use Rattle.b67_num.specs.declared.NumFault.{NumFault}
use Rattle.b67_num.specs.Whole.{negation_of, fault_of}
use Rattle.b67_word.specs.declared.Place.{Place}
use Rattle.b67_word.specs.Word.{Word, word, operand, truth}
use Rattle.b67_control.specs.declared.Irw.{Irw}
use Rattle.b67_control.specs.declared.Sirw.{Sirw}
use Rattle.b67_control.specs.Control.{irw_word, as_irw, sirw_word, as_sirw, mscw_word}
use Rattle.b67_ops.specs.declared.BranchKind.{BranchKind}
use Rattle.b67_ops.specs.declared.BranchKind.TheVariants.{Brfl, Brtr, Brun}
use Rattle.b67_ops.specs.declared.Couple.{Couple}
use Rattle.b67_table.specs.declared.InterruptKind.TheVariants.{InvalidOperand}
use Rattle.b67_table.specs.Effect.{Effect, gives, faults, interrupts, ◌>>=◌}
use Rattle.b67_table.specs.declared.Private.{Private}
use Rattle.b67_table.specs.Limits.{most_cells}
use Rattle.b67_table.specs.Private.{pop, push, whole_of_word, bits_of, display_at, frame}

-- ---- the pointer

-- the pointer names this place of the segment
abbrev pub pointed : ℕ → Private → Private
pointed place p = record p { regs = record p.regs { place = place } }

-- an operator of the part that leaves the pointer at the place after itself
abbrev pub onward : (Private → Effect Private) → ℕ → Private → Effect Private
onward change next p = change p >>= (λ (q : Private). gives (pointed next q))

-- ---- arithmetic

abbrev pub result_or_fault : Result ℤ NumFault → Effect ℤ
result_or_fault (Ok z) = gives z
result_or_fault (Err fault) = faults (fault_of fault)

-- whole y and x are replaced by a word of them
abbrev pub wholes : (ℤ → ℤ → Effect Word) → Private → Effect Private
wholes made p =
    pop p >>= (λ (x : Word × Private). pop x.1 >>= (λ (y : Word × Private).
    whole_of_word y.0 >>= (λ (a : ℤ). whole_of_word x.0 >>= (λ (b : ℤ). made a b >>= (λ (w : Word). gives (push w y.1))))))

-- whole y and x are replaced by y op x
abbrev pub arithmetic : (ℤ → ℤ → Result ℤ NumFault) → Private → Effect Private
arithmetic op = wholes (λ (a b : ℤ). result_or_fault (op a b) >>= (λ (z : ℤ). gives (operand z)))

-- whole y and x are replaced by 1 where they stand in the relation, else by 0
abbrev pub relation : (ℤ → ℤ → Bool) → Private → Effect Private
relation holds = wholes (λ (a b : ℤ). gives (truth (holds a b)))

-- the whole number on top is replaced by its negation
abbrev pub negated : Private → Effect Private
negated p = pop p >>= (λ (x : Word × Private). whole_of_word x.0 >>= (λ (a : ℤ). gives (push (operand (negation_of a)) x.1)))

-- ---- logic

-- the operands y and x are replaced by the bits of both
abbrev pub logic : (ℕ → ℕ → ℕ) → Private → Effect Private
logic op p =
    pop p >>= (λ (x : Word × Private). pop x.1 >>= (λ (y : Word × Private).
    bits_of y.0 >>= (λ (a : ℕ). bits_of x.0 >>= (λ (b : ℕ). gives (push (word 0 (op a b)) y.1)))))

-- the 48 bits that these do not have
abbrev pub complement : ℕ → ℕ
complement bits = 2 ^ 48 - 1 - bits

-- the bits in which two agree
abbrev pub agreement : ℕ → ℕ → ℕ
agreement a b = complement (bit_xor a b)

-- the operand on top is replaced by the bits that it does not have
abbrev pub complemented : Private → Effect Private
complemented p = pop p >>= (λ (x : Word × Private). bits_of x.0 >>= (λ (a : ℕ). gives (push (word 0 (complement a)) x.1)))

-- ---- words on the stack

-- the top word is taken off
abbrev pub dropped : Private → Effect Private
dropped p = pop p >>= (λ (x : Word × Private). gives x.1)

-- the two words on top change places
abbrev pub exchanged : Private → Effect Private
exchanged p =
    pop p >>= (λ (x : Word × Private). pop x.1 >>= (λ (y : Word × Private). gives (push y.0 (push x.0 y.1))))

-- the top word is pushed again
abbrev pub doubled : Private → Effect Private
doubled p = pop p >>= (λ (x : Word × Private). gives (push x.0 (push x.0 x.1)))

-- the reference to the cell of this index in a frame, wherever it is read
abbrev pub stuffed_at : ℕ → Option Place → Effect Word
stuffed_at index None = interrupts InvalidOperand
stuffed_at index (Some f) = gives (sirw_word (record { stack = f.stack; displacement = f.at; index = index }))

abbrev pub stuffed_or_invalid : Option Sirw → Effect Word
stuffed_or_invalid None = interrupts InvalidOperand
stuffed_or_invalid (Some s) = gives (sirw_word s)

-- an IRW is stuffed, and a SIRW stays
abbrev pub stuffed : Private → Word → Option Irw → Effect Word
stuffed p w (Some i) = stuffed_at i.index (display_at p.regs i.level)
stuffed p w None = stuffed_or_invalid (as_sirw w)

-- the reference on top is stuffed
abbrev pub stuff : Private → Effect Private
stuff p = pop p >>= (λ (x : Word × Private). stuffed p x.0 (as_irw x.0) >>= (λ (w : Word). gives (push w x.1)))

-- the reference of a couple
abbrev pub reference : Couple → Word
reference couple = irw_word (record { level = couple.level; index = couple.index })

-- ---- marks and cells

-- a mark that is not entered, with this distance to the mark below
abbrev pub open_mark : ℕ → Word
open_mark df = mscw_word (record { entered = false; stack = 0; displacement = 0; df = df })

-- F names a place of the stack
abbrev pub marked_at : ℕ → Private → Private
marked_at f p = record p { regs = record p.regs { f = f } }

-- a mark is pushed, and F names it
abbrev pub mark : Private → Effect Private
mark p = if nat_lt p.regs.f p.regs.s then gives (marked_at p.regs.s (push (open_mark (p.regs.s - p.regs.f)) p)) else interrupts InvalidOperand

-- the words up to here become cells
abbrev pub make_cells : Private → Effect Private
make_cells p =
    if nat_le (p.regs.s - (frame p.regs + 2)) most_cells
    then gives (record p { regs = record p.regs { cells = p.regs.s - (frame p.regs + 2) } })
    else interrupts InvalidOperand

-- ---- branches

-- whether a branch of this kind goes, by bit 0
abbrev pub is_taken : BranchKind → ℕ → Bool
is_taken Brfl bits = nat_eq (bits % 2) 0
is_taken Brtr bits = nat_eq (bits % 2) 1
is_taken Brun bits = true

-- a branch that goes by bit 0 of the operand on top, which is taken off
abbrev pub by_bit : BranchKind → ℕ → ℕ → Private → Effect Private
by_bit kind target next p =
    pop p >>= (λ (x : Word × Private). bits_of x.0 >>= (λ (bits : ℕ). gives (pointed (if is_taken kind bits then target else next) x.1)))

-- a branch to a place
abbrev pub branch : BranchKind → ℕ → ℕ → Private → Effect Private
branch Brun target next p = gives (pointed target p)
branch Brfl target next p = by_bit Brfl target next p
branch Brtr target next p = by_bit Brtr target next p
