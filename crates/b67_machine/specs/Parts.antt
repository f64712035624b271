-- A part of a process, private or whole, as a list of words, and where two lists differ first.
use Rattle.std.specs.Prelude.{◌≡◌, ◌≢◌, ℕ, ◌+◌, ◌*◌, ◌^◌, pos, List, [], ◌∷◌, ◌++◌, length, map, take, slice_get, Option, Some, None}
use Rattle.b67_list.specs.Numbered.{numbered}
use Rattle.b67_word.specs.declared.Place.{Place}
use Rattle.b67_word.specs.Word.{Word, operand}
use Rattle.b67_control.specs.declared.Registers.{Registers}
use Rattle.b67_table.specs.declared.Private.{Private}
use Rattle.b67_table.specs.Image.{Image}
use Rattle.b67_table.specs.Private.{floor}
use Rattle.b67_action.specs.Own.{part_from}

-- ---- the parts of a process

-- the registers that a process has, where it has some, and the words of its stack from a place on that they tell
abbrev pub kept_from : (Registers → ℕ) → Image → Option Registers → Option Private
kept_from from img None = None
kept_from from img (Some r) = Some (part_from (from r) img.stacks r)

abbrev pub part_by : Image → Option Registers → Option Private
part_by img o = kept_from floor img o

-- the private part of a process, where it has registers
abbrev pub private_part : Image → ℕ → Option Private
private_part img p = part_by img (numbered img.regs p)

-- the lowest place of a stack
abbrev pub bottom : Registers → ℕ
bottom r = 0

-- the registers of a process and all the words of its stack
abbrev pub whole_part : Image → ℕ → Option Private
whole_part img p = kept_from bottom img (numbered img.regs p)

-- as many words as its S lies above its floor
abbrev pub IsWholePart : Private → Type 0
IsWholePart p = floor p.regs + length p.words ≡ p.regs.s

-- as many words as its S says
abbrev pub IsFull : Private → Type 0
IsFull p = length p.words ≡ p.regs.s

-- ---- as a list of words

abbrev pub number_word : ℕ → Word
number_word n = operand (pos n)

-- 65,536 times its stack plus its displacement plus 1, and none as 0
abbrev pub place_word : Option Place → Word
place_word None = number_word 0
place_word (Some place) = number_word (2 ^ 16 * place.stack + place.at + 1)

-- the registers before the display, in the order of their type
abbrev pub registers_before_display : Registers → List Word
registers_before_display r = number_word r.stack ∷ number_word r.s ∷ number_word r.f ∷ number_word r.ll ∷ []

-- the registers after the display, in the order of their type
abbrev pub last_registers : Registers → List Word
last_registers r = number_word r.cells ∷ number_word r.segment ∷ number_word r.place ∷ place_word r.task ∷ place_word r.critical ∷ []

abbrev pub register_list : Registers → List Word
register_list r = registers_before_display r ++ (map place_word r.display ++ last_registers r)

-- the registers in the order of their type, each as an operand, and then the private words
abbrev pub part_list : Private → List Word
part_list p = register_list p.regs ++ p.words

-- ---- where two lists differ

-- the first position at which two lists differ, and what stands there in each
pub record FirstDiffer {A : Type 0} (xs ys : List A) (position : ℕ) (x y : A) : Type 0 where
  pub before : take position xs ≡ take position ys
  pub here : slice_get xs position ≡ Some x
  pub there : slice_get ys position ≡ Some y
  pub apart : x ≢ y

-- two lists are equal, or this is where they differ first
abbrev pub FirstOf : List Word → List Word → Option (ℕ × Word × Word) → Type 0
FirstOf xs ys None = xs ≡ ys
FirstOf xs ys (Some found) = FirstDiffer xs ys found.0 found.1 found.2

-- the given part is the kept one, or this is where their lists differ first
abbrev pub Compared : Private → Private → Option (ℕ × Word × Word) → Type 0
Compared kept given None = given ≡ kept
Compared kept given (Some found) = FirstDiffer (part_list kept) (part_list given) found.0 found.1 found.2
