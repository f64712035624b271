-- What is told of a process of an image, where it lives.
use Rattle.std.specs.Prelude.{ℕ, Bool, true, false, List, Option, Some, None}
use Rattle.b67_list.specs.Numbered.{numbered}
use Rattle.b67_control.specs.declared.Registers.{Registers}
use Rattle.b67_table.specs.Image.{Image, is_live}
use Rattle.b67_stack_text.specs.Lines.{no_process_text}

-- what is told of a process that lives, by its registers
abbrev pub if_lives : Bool → Option Registers → List ℕ → (Registers → List ℕ) → List ℕ
if_lives true (Some r) otherwise text = text r
if_lives true None otherwise text = otherwise
if_lives false regs otherwise text = otherwise

abbrev pub process_text : Image → ℕ → (Registers → List ℕ) → List ℕ
process_text img p text = if_lives (is_live (numbered img.states p)) (numbered img.regs p) (no_process_text p) text
