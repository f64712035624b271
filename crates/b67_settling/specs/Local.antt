-- Local entries: they touch only what is their process's own, and no other process comes to that.
use Rattle.std.specs.Prelude.{◌≡◌, ℕ, ◌+◌, ◌<◌, ◌≤◌, Bool, true, false, List, ◌∷◌, drop, Some, None, Ok, nat_lt}
use Rattle.b67_list.specs.Numbered.{numbered}
use Rattle.b67_word.specs.declared.Place.{Place}
use Rattle.b67_word.specs.Word.{Word}
use Rattle.b67_control.specs.declared.Registers.{Registers}
use Rattle.b67_ops.specs.declared.BranchKind.{BranchKind}
use Rattle.b67_ops.specs.declared.BranchKind.TheVariants.{Brun}
use Rattle.b67_ops.specs.declared.Couple.{Couple}
use Rattle.b67_ops.specs.declared.Operator.TheVariants as ops
use Rattle.b67_ops.specs.declared.PlainKind.{PlainKind}
use Rattle.b67_ops.specs.declared.PlainKind.TheVariants as kinds
use Rattle.b67_segment.specs.declared.code.Code.{Code}
use Rattle.b67_store.specs.Store.{word_at, stack_limit}
use Rattle.b67_table.specs.declared.Cell.{Cell}
use Rattle.b67_table.specs.declared.Private.{Private}
use Rattle.b67_table.specs.Arrays.{as_indexed}
use Rattle.b67_table.specs.Ending.{may_act}
use Rattle.b67_table.specs.Image.{Image}
use Rattle.b67_table.specs.Outcome.{gives}
use Rattle.b67_table.specs.Private.{floor}
use Rattle.b67_table.specs.References.{cell_place, couple_cell, cell_of}
use Rattle.b67_table.specs.Runs.{Plains, TableRun}
use Rattle.b67_table.specs.Sound.{Lives, OperatorTouches}
use Rattle.b67_table.specs.Table.{table, operator_at}
use Rattle.b67_table.specs.Valid.{IsValid}
use Rattle.b67_settling.specs.Own.{MovesOwn, IsOwnAction}

-- ---- stacks on which nobody depends

-- no place of this stack is critical for a process that there has been
abbrev pub NobodyDepends : Image → ℕ → Type 0
NobodyDepends img stack = (k : ℕ) (o : Registers) (c : Place) → numbered img.regs k ≡ Some o → o.critical ≡ Some c → c.stack ≡ stack → ⊥

-- In each image to which a run leads, no operator of another process touches the stack of a process on which nobody depends.
abbrev pub StacksStayOwn : Code → Type 0
StacksStayOwn code =
    (schedule tails : List ℕ) (img : Image) → TableRun code schedule tails img → (p q : ℕ) (r : Registers) (x : Place) → Lives img p r
    → NobodyDepends img r.stack → OperatorTouches code img q x → x.stack ≡ r.stack → q ≡ p

-- ---- local entries

-- The entry that the process has next is local: it touches only its registers, and its words from its floor on; or, where stacks stay own and nobody depends on its
-- stack, all words of it.
pub data IsLocal (code : Code) (a : Image) (p : ℕ) : Type 0 where
  above_floor : (r : Registers) → MovesOwn code a p r (floor r) → IsLocal code a p
  in_stack : (r : Registers) → StacksStayOwn code → NobodyDepends a r.stack → MovesOwn code a p r 0 → IsLocal code a p

-- ---- entries in a valid image

-- The process performs so many plain operators, and its action after them is performed and touches only what is its own.
pub record IsOwnEntry (code : Code) (a : Image) (p : ℕ) (r : Registers) (base : ℕ) : Type 0 where
  pub may : may_act a p ≡ true
  pub valid : IsValid code a
  pub has : numbered a.regs p ≡ Some r
  pub low : base ≤ floor r
  pub count : ℕ
  pub quiet : Image
  pub plains : Plains code p a count quiet
  pub then : Registers
  pub then_has : numbered quiet.regs p ≡ Some then
  pub action : IsOwnAction code quiet then base
  pub after : Image
  pub performed : table code quiet p ≡ gives after

-- The next operator of a private part is a branch that does not go forward, and finds what it wants.
pub data Turns (code : Code) (part : Private) : Type 0 where
  always : {target next : ℕ} → operator_at code part.regs ≡ Ok (ops.Branch Brun target, next) → nat_lt part.regs.place target ≡ false → Turns code part
  by_bit : {kind : BranchKind} {target next : ℕ} → operator_at code part.regs ≡ Ok (ops.Branch kind target, next) → nat_lt part.regs.place target ≡ false
      → (w : Word) → part.words ≡ w ∷ drop 1 part.words → w.tag ≡ 0 → floor part.regs < part.regs.s → Turns code part

-- ---- cells

-- The cell holds an operand. It lies in the stack of a process with these registers, below the floor.
pub record IsOwnCell (img : Image) (r : Registers) (c : Cell) : Type 0 where
  pub stack : c.frame.stack ≡ r.stack
  pub low : c.frame.at + c.index < floor r
  pub word : Word
  pub there : word_at img.stacks (cell_place c) ≡ Some word
  pub operand : word.tag ≡ 0

-- The next operator of a private part of the process reads such a cell.
pub record ReadsCell (code : Code) (img : Image) (r : Registers) (part : Private) : Type 0 where
  pub couple : Couple
  pub next : ℕ
  pub stands : operator_at code part.regs ≡ Ok (ops.Valc couple, next)
  pub cell : Cell
  pub names : couple_cell part.regs couple.level couple.index ≡ Some cell
  pub own : IsOwnCell img r cell
  pub room : part.regs.s < stack_limit

-- the operator that stores, and keeps the operand on the stack or does not
abbrev pub store_kind : Bool → PlainKind
store_kind false = kinds.Stod
store_kind true = kinds.Ston

-- It stores the operand on top in such a cell, which the word under it names.
pub record StoresCell (code : Code) (img : Image) (r : Registers) (part : Private) : Type 0 where
  pub keeps : Bool
  pub next : ℕ
  pub stands : operator_at code part.regs ≡ Ok (ops.Plain (store_kind keeps), next)
  pub value : Word
  pub reference : Word
  pub words : part.words ≡ value ∷ reference ∷ drop 2 part.words
  pub two : floor part.regs + 2 ≤ part.regs.s
  pub operand : value.tag ≡ 0
  pub variable : as_indexed reference ≡ None
  pub cell : Cell
  pub names : cell_of part.regs reference ≡ Some cell
  pub own : IsOwnCell img r cell
