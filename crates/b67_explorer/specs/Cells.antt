-- What a private part's next operator does with a cell of its process's own.
use Rattle.std.specs.Prelude.{◌≡◌, ◌⊎◌, ℕ, ◌+◌, ◌<◌, ◌≤◌, ◌∷◌, drop, Some, None}
use Rattle.b67_list.specs.Numbered.{numbered}
use Rattle.b67_word.specs.Word.{Word}
use Rattle.b67_control.specs.declared.Registers.{Registers}
use Rattle.b67_segment.specs.declared.code.Code.{Code}
use Rattle.b67_store.specs.Store.{stack_limit}
use Rattle.b67_table.specs.declared.Cell.{Cell}
use Rattle.b67_table.specs.declared.Private.{Private}
use Rattle.b67_table.specs.Arrays.{as_indexed}
use Rattle.b67_table.specs.Image.{Image}
use Rattle.b67_table.specs.Private.{floor}
use Rattle.b67_table.specs.References.{couple_cell, cell_of}
use Rattle.b67_settling.specs.Local.{IsLocal, StacksStayOwn, NobodyDepends, IsOwnCell, ReadsCell, StoresCell}

-- a couple names such a cell, and the stack has room for its word
pub record ReadsOwn (img : Image) (r : Registers) (part : Private) (level index : ℕ) : Type 0 where
  pub cell : Cell
  pub names : couple_cell part.regs level index ≡ Some cell
  pub own : IsOwnCell img r cell
  pub room : part.regs.s < stack_limit

-- an operand is on top, and the word under it names such a cell
pub record StoresOwn (img : Image) (r : Registers) (part : Private) : Type 0 where
  pub value : Word
  pub reference : Word
  pub words : part.words ≡ value ∷ reference ∷ drop 2 part.words
  pub two : floor part.regs + 2 ≤ part.regs.s
  pub operand : value.tag ≡ 0
  pub variable : as_indexed reference ≡ None
  pub cell : Cell
  pub names : cell_of part.regs reference ≡ Some cell
  pub own : IsOwnCell img r cell

-- the next operator of a private part of the process does one or the other, and nobody depends on the process's stack
pub record AccessesOwn (code : Code) (img : Image) (p : ℕ) (part : Private) : Type 0 where
  pub registers : Registers
  pub has : numbered img.regs p ≡ Some registers
  pub free : NobodyDepends img registers.stack
  pub accesses : ReadsCell code img registers part ⊎ StoresCell code img registers part

-- of a code whose stacks stay own, the process's next entry is local
abbrev pub IsLocalThere : Code → Image → ℕ → Type 0
IsLocalThere code img p = StacksStayOwn code → IsLocal code img p
