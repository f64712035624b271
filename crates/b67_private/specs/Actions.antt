-- Which row of the table a row is that is made ready.
use Rattle.std.specs.Prelude.{◌≡◌, ◌<◌, ℕ}
use Rattle.b67_control.specs.declared.Registers.{Registers}
use Rattle.b67_control.specs.Display.{levels}
use Rattle.b67_ops.specs.declared.Operator.{Operator}
use Rattle.b67_ops.specs.declared.PlainKind.{PlainKind}
use Rattle.b67_table.specs.declared.Class.TheVariants.{Private}
use Rattle.b67_table.specs.Arrays.{index_program, index_and_load, index_mother}
use Rattle.b67_table.specs.Program.{Program}
use Rattle.b67_table.specs.Rows as table
use Rattle.b67_table.specs.Rows.{acts, row, plain_row, value_call, branch_turn, evaluate, load_through, load_value, store, exit, return_value, enter}
use Rattle.b67_table.specs.Table.{class_by}
use Rattle.b67_private.specs.declared.operators.WordsRow.{WordsRow}
use Rattle.b67_private.specs.declared.operators.WordsRow.TheVariants as words
use Rattle.b67_private.specs.declared.operators.Row.{Row}
use Rattle.b67_private.specs.declared.operators.Row.TheVariants as rows

abbrev pub words_program : WordsRow → Registers → ℕ → Program
words_program (words.ValueCall couple) = value_call couple
words_program (words.Turn kind target) = branch_turn kind target
words_program words.Evaluate = evaluate
words_program words.LoadThrough = load_through
words_program words.LoadValue = load_value
words_program (words.Store keeps) = store keeps
words_program words.Index = index_program
words_program words.IndexAndLoad = index_and_load
words_program words.IndexMother = index_mother

-- the table's row is that action, or a private operator's
abbrev pub IsActionRow : table.TableRow → Row → Type 0
IsActionRow w (rows.Words kind) = w ≡ acts (words_program kind)
IsActionRow w rows.Exit = w ≡ acts exit
IsActionRow w rows.ReturnValue = w ≡ acts return_value
IsActionRow w rows.Enter = w ≡ table.action enter
IsActionRow w _ = class_by w ≡ Private

-- an operator at this place has this row
abbrev pub IsRow : Operator → ℕ → Row → Type 0
IsRow op here r = IsActionRow (row op here) r

abbrev pub IsPlainRow : PlainKind → Row → Type 0
IsPlainRow kind r = IsActionRow (plain_row kind) r

-- the couple of a row can be held by a reference
abbrev pub IsHeldWords : WordsRow → Type 0
IsHeldWords (words.ValueCall couple) = couple.level < levels
IsHeldWords _ = Unit {0}

abbrev pub IsHeldRow : Row → Type 0
IsHeldRow (rows.Words kind) = IsHeldWords kind
IsHeldRow _ = Unit {0}
