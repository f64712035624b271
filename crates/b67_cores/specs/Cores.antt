-- A process's core: all that its private operators read and write. What one of them does to it, and stretches of them.
use Rattle.std.specs.Prelude.{◌≡◌, ℕ, ◌+◌, ◌≤◌, true, List, ◌++◌, length, reverse, Some, Ok}
use Rattle.b67_list.specs.Numbered.{numbered}
use Rattle.b67_num.specs.declared.FaultKind.{FaultKind}
use Rattle.b67_word.specs.Word.{Word}
use Rattle.b67_control.specs.declared.Registers.{Registers}
use Rattle.b67_ops.specs.declared.Operator.{Operator}
use Rattle.b67_segment.specs.declared.code.Code.{Code}
use Rattle.b67_store.specs.Store.{stack_at, with_stack}
use Rattle.b67_table.specs.declared.Class.TheVariants as classes
use Rattle.b67_table.specs.declared.Private.{Private}
use Rattle.b67_table.specs.Effect.{gives, faults}
use Rattle.b67_table.specs.Private.{floor}
use Rattle.b67_table.specs.Image.{Image, with_stacks, with_registers, is_live}
use Rattle.b67_table.specs.Table.{operator_at, class_at, private_op}

-- the words of the process's stack up to its floor, the bottom first, those above, the top first, and its registers
pub record Core : Type 0 where
  pub below : List Word
  pub words : List Word
  pub registers : Registers

-- the words of the stack, the bottom first
abbrev pub stack_of : Core → List Word
stack_of core = core.below ++ reverse core.words

-- how many words the stack has
abbrev pub size : Core → ℕ
size core = length core.below + length core.words

-- the words below end where the floor is, and S is the number of all words
pub record IsCore (core : Core) : Type 0 where
  pub bottom : length core.below ≡ floor core.registers
  pub top : core.registers.s ≡ size core

-- the core with other words below its floor
abbrev pub over : List Word → Core → Core
over lower core = record { below = lower; words = core.words; registers = core.registers }

-- ---- cores in images

-- the process lives, its stack has its number, and the two are this core
pub record HasCore (img : Image) (p : ℕ) (core : Core) : Type 0 where
  pub live : is_live (numbered img.states p) ≡ true
  pub registers : numbered img.regs p ≡ Some core.registers
  pub own : core.registers.stack ≡ p
  pub stack : stack_at img.stacks core.registers.stack ≡ Some (stack_of core)
  pub is : IsCore core

-- the image with this core of a process in place of the one that it has; all else is as it was
abbrev pub with_core : Image → ℕ → Core → Image
with_core img p core = with_registers (with_stacks img (with_stack img.stacks core.registers.stack (stack_of core))) p core.registers

-- ---- private operators

abbrev pub part_of_core : Core → Private
part_of_core core = record { regs = core.registers; words = core.words }

-- One private operator leads from a core to another: by its effect on the private part, above the words below. PUSH lifts the floor,
-- so the stack is parted anew.
pub record CoreStep (code : Code) (a b : Core) : Type 0 where
  pub op : Operator
  pub next : ℕ
  pub stands : operator_at code a.registers ≡ Ok (op, next)
  pub private : class_at op a.registers.place ≡ classes.Private
  pub part : Private
  pub effect : private_op op a.registers.place next (part_of_core a) ≡ gives part
  pub registers : b.registers ≡ part.regs
  pub stack : stack_of b ≡ a.below ++ reverse part.words
  pub is : IsCore b

-- the next operator is a private one that faults
pub record CoreFaults (code : Code) (a : Core) (kind : FaultKind) : Type 0 where
  pub op : Operator
  pub next : ℕ
  pub stands : operator_at code a.registers ≡ Ok (op, next)
  pub private : class_at op a.registers.place ≡ classes.Private
  pub effect : private_op op a.registers.place next (part_of_core a) ≡ faults kind

-- so many private operators lead from a core to another, and no core from the first to the last has more words than the bound
pub data CoreSteps (code : Code) (bound : ℕ) : ℕ → Core → Core → Type 0 where
  here : {a : Core} → size a ≤ bound → CoreSteps code bound 0 a a
  onward : {n : ℕ} {a b c : Core} → size a ≤ bound → CoreStep code a b → CoreSteps code bound n b c → CoreSteps code bound (n + 1) a c
