-- What the rows of the private operators are.
use Rattle.std.specs.Prelude.{◌≡◌, ℕ, ◌^◌, ◌<◌}
use Rattle.b67_num.specs.Whole.{calculated, related}
use Rattle.b67_ops.specs.declared.Couple.{Couple}
use Rattle.b67_ops.specs.declared.Operator.{Operator}
use Rattle.b67_ops.specs.declared.PlainKind.{PlainKind}
use Rattle.b67_control.specs.Display.{levels}
use Rattle.b67_table.specs.declared.InterruptKind.TheVariants.{BadCode}
use Rattle.b67_table.specs.declared.Private.{Private}
use Rattle.b67_table.specs.Effect.{Effect, gives, interrupts}
use Rattle.b67_table.specs.Private.{push}
use Rattle.b67_table.specs.PrivateRows.{onward, arithmetic, relation, negated, logic, complemented, dropped, exchanged, doubled, stuff, mark, make_cells, branch}
use Rattle.b67_table.specs.Rows.{row, plain_row}
use Rattle.b67_table.specs.Table.{part_by}
use Rattle.b67_private.specs.declared.operators.TopRow.{TopRow}
use Rattle.b67_private.specs.declared.operators.TopRow.TheVariants as tops
use Rattle.b67_private.specs.declared.operators.Row.{Row}
use Rattle.b67_private.specs.declared.operators.Row.TheVariants as rows
use Rattle.b67_private.specs.Performing.{bits_by}

abbrev pub top_effect : TopRow → ℕ → Private → Effect Private
top_effect tops.Negate = onward negated
top_effect tops.Complement = onward complemented
top_effect tops.Drop = onward dropped
top_effect tops.Exchange = onward exchanged
top_effect tops.Double = onward doubled
top_effect tops.Stuff = onward stuff

-- what a row does, given the place after the operator
abbrev pub effect_by : Row → ℕ → Private → Effect Private
effect_by (rows.Push w) = onward (λ (q : Private). gives (push w q))
effect_by (rows.Calculate calculation) = onward (arithmetic (calculated calculation))
effect_by (rows.Compare relation') = onward (relation (related relation'))
effect_by (rows.Combine kind) = onward (logic (bits_by kind))
effect_by (rows.Top row) = top_effect row
effect_by rows.Mark = onward mark
effect_by rows.MakeCells = onward make_cells
effect_by rows.GoOn = onward gives
effect_by (rows.Branch kind target) = branch kind target
effect_by (rows.Words kind) = λ (next : ℕ) (p : Private). interrupts BadCode
effect_by rows.Exit = λ (next : ℕ) (p : Private). interrupts BadCode
effect_by rows.ReturnValue = λ (next : ℕ) (p : Private). interrupts BadCode
effect_by rows.Enter = λ (next : ℕ) (p : Private). interrupts BadCode

-- an operator at this place has this row in the table
abbrev pub PrivateHasRow : Operator → ℕ → Row → Type 0
PrivateHasRow op here r = (next : ℕ) (p : Private) → part_by (row op here) next p ≡ effect_by r next p

abbrev pub HasRowOf : PlainKind → Row → Type 0
HasRowOf kind r = (next : ℕ) (p : Private) → part_by (plain_row kind) next p ≡ effect_by r next p

-- a couple that a reference can hold
abbrev pub IsHeldCouple : Couple → Type 0
IsHeldCouple couple = (couple.level < levels) × (couple.index < 2 ^ 14)
