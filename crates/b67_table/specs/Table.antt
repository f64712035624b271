-- The operator table: what a process's next operator does to an image, read beside the code. Class and effect of an operator are read
-- off its row.
use Rattle.std.specs.Prelude.{ℕ, ◌&&◌, if◌then◌else◌, Bool, true, false, Option, Some, None, Result, Ok, Err}
use Rattle.b67_list.specs.Numbered.{numbered}
use Rattle.b67_control.specs.declared.Registers.{Registers}
use Rattle.b67_ops.specs.declared.Operator.{Operator}
use Rattle.b67_ops.specs.declared.BadCode.{BadCode}
use Rattle.b67_segment.specs.declared.code.Code.{Code}
use Rattle.b67_segment.specs.Fetching.{fetched}
use Rattle.b67_table.specs.declared.InterruptKind.TheVariants.{BadCode as bad_code}
use Rattle.b67_table.specs.declared.Class.{Class}
use Rattle.b67_table.specs.declared.Class.TheVariants as classes
use Rattle.b67_table.specs.declared.Private.{Private}
use Rattle.b67_table.specs.Effect.{Effect, interrupts}
use Rattle.b67_table.specs.Outcome.{Outcome, limited}
use Rattle.b67_table.specs.Outcome as outcomes
use Rattle.b67_table.specs.Private.{floor}
use Rattle.b67_table.specs.Image.{Image, private_of, with_effect, is_live}
use Rattle.b67_table.specs.Program.{Program, interrupt, does}
use Rattle.b67_table.specs.Rows.{TableRow, private_part, action, row}

-- ---- classes

abbrev pub class_by : TableRow → Class
class_by (private_part change) = classes.Private
class_by (action program) = classes.Action

-- A private operator only goes forward, and reads and writes the private part of its own process only.
unfoldable pub class_at : Operator → ℕ → Class
class_at op place = class_by (row op place)

-- ---- the two kinds of row

-- what a row does to a private part: an action is no operator of a part
abbrev pub part_by : TableRow → ℕ → Private → Effect Private
part_by (private_part change) next part = change next part
part_by (action program) next part = interrupts bad_code

-- what a private operator at a place does to the private part, given the place after it
unfoldable pub private_op : Operator → ℕ → ℕ → Private → Effect Private
private_op op place next part = part_by (row op place) next part

-- the program of a row: a private operator is no program
abbrev pub program_by : TableRow → Code → Registers → ℕ → Program
program_by (private_part change) code r next = interrupt bad_code
program_by (action program) code r next = program code r next

-- ---- the table

-- what a row does to an image
abbrev pub by_row : TableRow → Code → Image → ℕ → Registers → ℕ → Effect Image
by_row (private_part change) code img p r next = with_effect img p (floor r) (change next (private_of img r))
by_row (action program) code img p r next = does p (program code r next) img

abbrev pub by_operator : Code → Image → ℕ → Registers → Result (Operator × ℕ) BadCode → Effect Image
by_operator code img p r (Err e) = interrupts bad_code
by_operator code img p r (Ok found) = by_row (row found.0 r.place) code img p r found.1

-- the operator at a process's pointer, and the place after it
abbrev pub operator_at : Code → Registers → Result (Operator × ℕ) BadCode
operator_at code r = fetched code (record { segment = r.segment; place = r.place }) r.ll

abbrev pub by_registers : Code → Image → ℕ → Option Registers → Effect Image
by_registers code img p None = interrupts bad_code
by_registers code img p (Some r) = by_operator code img p r (operator_at code r)

-- what the next operator of a process does where no stack has a limit; a process that has ended, or is not there, has no operator
unfoldable pub raw : Code → Image → ℕ → Effect Image
raw code img p = if is_live (numbered img.states p) then by_registers code img p (numbered img.regs p) else interrupts bad_code

abbrev pub length_in : Option Registers → ℕ
length_in None = 0
length_in (Some r) = r.s

-- how many words a process's stack has, by its register S
abbrev pub stack_length : ℕ → Image → ℕ
stack_length p img = length_in (numbered img.regs p)

-- The table: for the next operator of a process exactly one of a new image, a fault, an interrupt, the stack limit.
unfoldable pub table : Code → Image → ℕ → Outcome Image
table code img p = limited (stack_length p) (raw code img p)

-- ---- plain operators

abbrev pub is_private : Class → Bool
is_private classes.Private = true
is_private classes.Action = false

abbrev pub private_at : Registers → Result (Operator × ℕ) BadCode → Bool
private_at r (Err e) = false
private_at r (Ok found) = is_private (class_at found.0 r.place)

abbrev pub private_in : Code → Option Registers → Bool
private_in code None = false
private_in code (Some r) = private_at r (operator_at code r)

-- the next operator of a process is private
abbrev pub private_next : Code → Image → ℕ → Bool
private_next code img p = private_in code (numbered img.regs p)

abbrev pub is_new : Outcome Image → Bool
is_new (outcomes.gives img) = true
is_new (outcomes.faults kind) = false
is_new (outcomes.interrupts kind) = false
is_new outcomes.limit = false

-- its class is private and the table gives a new image
unfoldable pub plain : Code → Image → ℕ → Bool
plain code img p = private_next code img p && is_new (table code img p)
