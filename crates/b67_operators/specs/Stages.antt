-- Parts of the table's rows that have functions of their own.
use Rattle.std.specs.Prelude.{ℕ, ◌+◌, ◌-◌, ◌==◌, if◌then◌else◌, Bool, Result, Ok, Err}
use Rattle.b67_word.specs.Word.{Word}
use Rattle.b67_control.specs.declared.Registers.{Registers}
use Rattle.b67_table.specs.declared.Cell.{Cell}
use Rattle.b67_table.specs.declared.Reached.{Reached}
use Rattle.b67_table.specs.declared.InterruptKind.{InterruptKind}
use Rattle.b67_table.specs.declared.InterruptKind.TheVariants.{InvalidOperand}
use Rattle.b67_table.specs.Moves.{replaced}
use Rattle.b67_table.specs.Program.{Program, answer, see, ◌>>=◌, Change, done, registers}
use Rattle.b67_table.specs.References.{operand_in}
use Rattle.b67_reach.specs.declared.Stop.{Stop}
use Rattle.b67_reach.specs.declared.Stop.TheVariants.{Interrupt}
use Rattle.b67_table.specs.Rows.{after_store, kept_words}

-- an operand takes the place of so many words on top
abbrev pub operand_replaces : Registers → ℕ → ℕ → Word → Program
operand_replaces r next count w = see (operand_in w) >>= (λ (v : Word). answer (replaced r next count v))

-- what a store does after the word was stored
abbrev pub finished : Bool → Registers → ℕ → Word → Change
finished keeps r next x = after_store keeps r next x (registers (record r { s = r.s - 2 + kept_words keeps; place = next }) done)

-- the cell of an operand that was found
abbrev pub operand_cell : Result Reached InterruptKind → Result Cell Stop
operand_cell (Ok w) = if w.word.tag == 0 then Ok w.cell else Err (Interrupt InvalidOperand)
operand_cell (Err kind) = Err (Interrupt kind)
