-- Private operators: what each leaves as it is, what it depends on, and that it comes before or after another process's operator alike.
use Rattle.std.specs.Prelude.{◌≡◌, ◌≢◌, ◌↔◌, ℕ, ◌≤◌, true, List, length, take, Some}
use Rattle.b67_list.specs.Numbered.{numbered}
use Rattle.b67_num.specs.declared.FaultKind.{FaultKind}
use Rattle.b67_word.specs.declared.Place.{Place}
use Rattle.b67_word.specs.Word.{Word}
use Rattle.b67_control.specs.declared.Registers.{Registers}
use Rattle.b67_segment.specs.declared.code.Code.{Code}
use Rattle.b67_store.specs.Store.{stack_at, words_of}
use Rattle.b67_table.specs.declared.InterruptKind.{InterruptKind}
use Rattle.b67_table.specs.declared.Private.{Private}
use Rattle.b67_table.specs.Effect.{Effect, gives}
use Rattle.b67_table.specs.Outcome as outcomes
use Rattle.b67_table.specs.Private.{floor}
use Rattle.b67_table.specs.Image.{Image, private_of, with_effect, is_able, is_live}
use Rattle.b67_table.specs.Table.{raw, table, plain, private_next}
use Rattle.b67_table.specs.Touches.{IsPrivate}
use Rattle.b67_table.specs.Sound.{OperatorTouches}

-- ---- a process with a private part

-- the process lives, its registers are these, and its stack is open and reaches its floor; so it is with each live process of a valid image
pub record ProcessStands (img : Image) (p : ℕ) (r : Registers) : Type 0 where
  pub live : is_live (numbered img.states p) ≡ true
  pub has : numbered img.regs p ≡ Some r
  pub words : List Word
  pub opened : stack_at img.stacks r.stack ≡ Some words
  pub high : floor r ≤ length words

-- ---- what stays

-- the registers that no private operator sets: it sets S, F, the cells and the place of the pointer
abbrev pub RegistersStay : Registers → Registers → Type 0
RegistersStay r q =
    (q.stack ≡ r.stack) × (q.ll ≡ r.ll) × (q.display ≡ r.display) × (q.segment ≡ r.segment) × (q.task ≡ r.task) × (q.critical ≡ r.critical)

-- all but the words of the process's stack from its floor on, and its own registers
pub record LeavesAllElse (p : ℕ) (r : Registers) (img new : Image) : Type 0 where
  pub below : take (floor r) (words_of new.stacks r.stack) ≡ take (floor r) (words_of img.stacks r.stack)
  pub stacks : (n : ℕ) → n ≢ r.stack → stack_at new.stacks n ≡ stack_at img.stacks n
  pub registers : (q : ℕ) → q ≢ p → numbered new.regs q ≡ numbered img.regs q
  pub rows : new.rows ≡ img.rows
  pub events : new.events ≡ img.events
  pub lists : new.lists ≡ img.lists
  pub states : new.states ≡ img.states
  pub numbers : new.numbers ≡ img.numbers
  pub output : new.output ≡ img.output
  pub started : new.started ≡ img.started
  pub fault : new.fault ≡ img.fault
  -- and of its own registers all but four
  pub own : (q : Registers) → numbered new.regs p ≡ Some q → RegistersStay r q

-- ---- what it depends on

-- the same effect on the private part, put into either image
pub record DoesTheSame (code : Code) (p : ℕ) (r : Registers) (x y : Image) : Type 0 where
  pub effect : Effect Private
  pub here : raw code x p ≡ with_effect x p (floor r) effect
  pub there : raw code y p ≡ with_effect y p (floor r) effect

pub record PrivateIsPrivate : Type 0 where
  pub leaves : (code : Code) (p : ℕ) (r : Registers) (img new : Image) → ProcessStands img p r → private_next code img p ≡ true
      → raw code img p ≡ gives new → LeavesAllElse p r img new
  -- images in which a process has the same registers, and the same words from its floor on
  pub same : (code : Code) (p : ℕ) (r : Registers) (x y : Image) → ProcessStands x p r → ProcessStands y p r → private_next code x p ≡ true
      → private_of x r ≡ private_of y r → DoesTheSame code p r x y

-- ---- either may come first

-- a is the image after an operator of q: an operator of p does the same before it and after it, and q's does the same after p's
pub record Commute (code : Code) (p q : ℕ) (img a : Image) : Type 0 where
  pub later : (b : Image) → table code img p ≡ outcomes.gives b
      → (c : Image) × (table code a p ≡ outcomes.gives c) × (table code b q ≡ outcomes.gives c)
  pub earlier : (c : Image) → table code a p ≡ outcomes.gives c
      → (b : Image) × (table code img p ≡ outcomes.gives b) × (table code b q ≡ outcomes.gives c)
  pub fault : (kind : FaultKind) → (table code a p ≡ outcomes.faults kind) ↔ (table code img p ≡ outcomes.faults kind)
  pub interrupt : (kind : InterruptKind) → (table code a p ≡ outcomes.interrupts kind) ↔ (table code img p ≡ outcomes.interrupts kind)
  pub limit : (table code a p ≡ outcomes.limit) ↔ (table code img p ≡ outcomes.limit)
  -- q's operator is plain, and q able, after p's operator as before it
  pub plain_after : (b : Image) → table code img p ≡ outcomes.gives b → plain code b q ≡ true
  pub able_after : (b : Image) → table code img p ≡ outcomes.gives b → is_able (numbered img.states q) ≡ true → is_able (numbered b.states q) ≡ true

-- A plain operator of one process commutes with every operator of another, plain or not, that touches no word of its private part.
abbrev pub PlainOperatorsCommute : Type 0
PlainOperatorsCommute =
    (code : Code) (p q : ℕ) (r : Registers) (img a : Image) → p ≢ q → ProcessStands img q r → plain code img q ≡ true → table code img q ≡ outcomes.gives a
    → ((x : Place) → OperatorTouches code img p x → IsPrivate r x → ⊥) → Commute code p q img a
