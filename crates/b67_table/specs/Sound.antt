-- Which codes are sound: no operator of a run is ill-tagged, and none reads or writes what is another process's own.
use Rattle.std.specs.Prelude.{◌≡◌, ℕ, true, List, Some, None, Ok}
use Rattle.b67_list.specs.Numbered.{numbered}
use Rattle.b67_word.specs.declared.Place.{Place}
use Rattle.b67_control.specs.declared.Registers.{Registers}
use Rattle.b67_ops.specs.declared.Operator.{Operator}
use Rattle.b67_segment.specs.declared.code.Code.{Code}
use Rattle.b67_table.specs.declared.InterruptKind.{InterruptKind}
use Rattle.b67_table.specs.Outcome.{interrupts}
use Rattle.b67_table.specs.Image.{Image, is_able, is_live}
use Rattle.b67_table.specs.Rows.{row}
use Rattle.b67_table.specs.Touches.{IsPrivate, RowTouches}
use Rattle.b67_table.specs.Table.{table, operator_at}
use Rattle.b67_table.specs.Ending.{image_end}
use Rattle.b67_table.specs.Runs.{TableRun}

-- the process has not ended, and its registers are these
pub record Lives (img : Image) (p : ℕ) (r : Registers) : Type 0 where
  pub live : is_live (numbered img.states p) ≡ true
  pub is : numbered img.regs p ≡ Some r

-- the next operator of the process reads or writes the word at that place
pub record OperatorTouches (code : Code) (img : Image) (p : ℕ) (x : Place) : Type 0 where
  pub registers : Registers
  pub lives : Lives img p registers
  pub op : Operator
  pub next : ℕ
  pub stands : operator_at code registers ≡ Ok (op, next)
  pub touches : RowTouches (row op registers.place) code img p registers next x

-- ---- sound codes

-- the table gives an interrupt for the next operator of the process
abbrev pub IllTagged : Code → Image → ℕ → Type 0
IllTagged code img p = (kind : InterruptKind) × (table code img p ≡ interrupts kind)

-- In each image to which a run leads, and so before each operator of a run:
pub record Sound (code : Code) : Type 0 where
  -- without an end, no able process is ill-tagged
  pub tagged : (schedule tails : List ℕ) (img : Image) → TableRun code schedule tails img → image_end img ≡ None → (p : ℕ) →
      is_able (numbered img.states p) ≡ true → IllTagged code img p → ⊥
  -- the next operator of a process reads and writes no word in the private part of another
  pub apart : (schedule tails : List ℕ) (img : Image) → TableRun code schedule tails img → (p q : ℕ) (x : Place) (r : Registers) →
      OperatorTouches code img p x → Lives img q r → IsPrivate r x → p ≡ q
