-- Plain operators on a private part only.
use Rattle.std.specs.Prelude.{◌≡◌, ℕ, ◌+◌, ◌^◌, ◌<◌, ◌≤◌, Bool, true, false, List, ◌++◌, length, take, reverse, All, Option, Some, None}
use Rattle.b67_word.specs.declared.Place.{Place}
use Rattle.b67_word.specs.Word.{Word, IsWord}
use Rattle.b67_control.specs.declared.Registers.{Registers}
use Rattle.b67_control.specs.Display.{levels}
use Rattle.b67_ops.specs.declared.Operator.{Operator}
use Rattle.b67_segment.specs.declared.code.Code.{Code}
use Rattle.b67_segment.specs.Decoded.{found}
use Rattle.b67_store.specs.Store.{stack_limit}
use Rattle.b67_table.specs.declared.InterruptKind.TheVariants.{BadCode}
use Rattle.b67_table.specs.declared.Private.{Private}
use Rattle.b67_table.specs.Outcome.{Outcome, gives, faults, limit, limited}
use Rattle.b67_table.specs.Outcome as outcomes
use Rattle.b67_table.specs.Limits.{most_cells}
use Rattle.b67_table.specs.Private.{display_at, floor}
use Rattle.b67_table.specs.Valid.{IsHeld}
use Rattle.b67_table.specs.Table.{private_op}

-- the part of these registers and words
abbrev pub part_with : Registers → List Word → Private
part_with r words = record { regs = r; words = words }

-- the lowest words of a room, so many of them, the top one first
abbrev pub top_first : ℕ → List Word → List Word
top_first n room = reverse (take n room)

-- the part of these registers with all the words of its stack, in the stack's room, the bottom first: a word stands at its place, and the lowest S are in use
abbrev pub part_in : Registers → List Word → Private
part_in r room = part_with r (top_first r.s room)

-- how many words the stack of a part has
abbrev pub length_of : Private → ℕ
length_of p = p.regs.s

-- what an operator, with the place after it, does to a part by the table, with the limit of a stack; an action is no operator of a part
abbrev pub own_outcome : Operator → ℕ → Private → Outcome Private
own_outcome op next p = limited length_of (private_op op p.regs.place next p)

abbrev pub outcome_by : Option (Operator × ℕ) → Private → Outcome Private
outcome_by None p = outcomes.interrupts BadCode
outcome_by (Some found) p = own_outcome found.0 found.1 p

-- what the table gives for the next operator of a part
unfoldable pub own_next : Code → Private → Outcome Private
own_next code p = outcome_by (found code p.regs.segment p.regs.ll p.regs.place) p

-- a part performs so many plain operators: for each the table gives a new part
pub data PlainParts (code : Code) : Private → ℕ → Private → Type 0 where
  stay : {a : Private} → PlainParts code a 0 a
  go : {a b c : Private} {n : ℕ} → own_next code a ≡ gives b → PlainParts code b n c → PlainParts code a (n + 1) c

abbrev pub is_new : Outcome Private → Bool
is_new (gives p) = true
is_new (faults kind) = false
is_new (outcomes.interrupts kind) = false
is_new limit = false

-- the next operator of a part is plain
abbrev pub is_plain : Code → Private → Bool
is_plain code p = is_new (own_next code p)

-- A private part as a process of a valid image has it, and as plain operators leave it: the words from some place of the stack up to S. That
-- place is the floor, or a PUSH has raised the floor above it.
pub record IsPrivatePart (p : Private) : Type 0 where
  pub base : ℕ
  pub size : base + length p.words ≡ p.regs.s
  pub room : p.regs.s ≤ stack_limit
  pub words : All IsWord p.words
  pub seen : (level : ℕ) (f : Place) → display_at p.regs level ≡ Some f → IsHeld f
  pub level : p.regs.ll < levels
  pub mark : p.regs.f < 2 ^ 16
  pub cells : p.regs.cells ≤ most_cells
  pub low : base ≤ floor p.regs
  pub above : floor p.regs ≤ p.regs.s
  pub pointer : p.regs.place < 2 ^ 16

-- a part with more words below its own, of which nothing is known
pub record HasPart (p : Private) : Type 0 where
  pub upper : Private
  pub lower : List Word
  pub is : p ≡ record upper { words = upper.words ++ lower }
  pub part : IsPrivatePart upper

-- the words that S counts stand in a room, which is no longer than a stack may be
abbrev pub HasRoom : Registers → List Word → Type 0
HasRoom r room = (r.s ≤ length room) × (length room ≤ stack_limit)

-- registers with which a private operator can be performed in the room of a stack
pub record AreReady (r : Registers) : Type 0 where
  pub room : r.s ≤ stack_limit
  pub seen : (level : ℕ) (f : Place) → display_at r level ≡ Some f → IsHeld f
  pub level : r.ll < levels
