-- Which row of the table an operator has.
use Rattle.std.specs.Prelude.{◌≡◌, ℕ}
use Rattle.b67_ops.specs.declared.Operator.{Operator}
use Rattle.b67_table.specs.declared.Class.TheVariants.{Private}
use Rattle.b67_table.specs.Rows as table
use Rattle.b67_table.specs.Rows.{acts, row, exit, return_value, enter}
use Rattle.b67_table.specs.Table.{class_by}
use Rattle.b67_private.specs.Actions.{words_program, IsHeldWords}
use Rattle.b67_action.specs.declared.rows.Row.{Row}
use Rattle.b67_action.specs.declared.rows.Row.TheVariants as rows

abbrev pub IsTableRow : table.TableRow → Row → Type 0
IsTableRow w rows.Own = class_by w ≡ Private
IsTableRow w (rows.Words kind) = w ≡ acts (words_program kind)
IsTableRow w rows.Exit = w ≡ acts exit
IsTableRow w rows.ReturnValue = w ≡ acts return_value
IsTableRow w rows.Enter = w ≡ table.action enter

-- the couple of a row can be held by a reference
abbrev pub IsHeldRow : Row → Type 0
IsHeldRow (rows.Words kind) = IsHeldWords kind
IsHeldRow rows.Own = Unit {0}
IsHeldRow rows.Exit = Unit {0}
IsHeldRow rows.ReturnValue = Unit {0}
IsHeldRow rows.Enter = Unit {0}

-- an operator at this place has this row
abbrev pub ActionHasRow : Operator → ℕ → Row → Type 0
ActionHasRow op here r = IsTableRow (row op here) r
