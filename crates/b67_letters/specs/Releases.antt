-- Whom an operator releases, in their order, and whom it starts.
use Rattle.std.specs.Prelude.{ℕ, nat_lt, if◌then◌else◌, List, [], ◌++◌, Option, Some, None, Result, Ok, Err}
use Rattle.b67_list.specs.Numbered.{numbered}
use Rattle.b67_control.specs.declared.Registers.{Registers}
use Rattle.b67_events.specs.Events.{deed_at}
use Rattle.b67_ops.specs.declared.Operator.{Operator}
use Rattle.b67_ops.specs.declared.BadCode.{BadCode}
use Rattle.b67_segment.specs.declared.code.Code.{Code}
use Rattle.b67_table.specs.Effect as effects
use Rattle.b67_table.specs.Effect.{Effect}
use Rattle.b67_table.specs.Image.{Image}
use Rattle.b67_table.specs.Outcome.{Outcome, gives, faults, interrupts, limit}
use Rattle.b67_table.specs.Program.{Change, done, look_up, write, asked}
use Rattle.b67_table.specs.Questions.{told}
use Rattle.b67_table.specs.Rows.{TableRow, private_part, action, row}
use Rattle.b67_table.specs.Table.{table, operator_at}
use Rattle.b67_table.specs.Writes.{Write, write_made}
use Rattle.b67_table.specs.Writes as writes

-- ---- whom it releases

-- what is done with an event frees whom the table of deeds says
abbrev pub write_releases : ℕ → Write → Image → List ℕ
write_releases p (writes.event_deed x place) img = (deed_at x p place img.events).frees
write_releases p _ img = []

abbrev pub change_releases : ℕ → Change → Image → List ℕ
change_releases p done img = []
change_releases p (look_up q more) img = change_releases p (more (told img q)) img
change_releases p (write w next) img = write_releases p w img ++ change_releases p next (write_made p w img)

abbrev pub effect_releases : ℕ → Image → Effect Change → List ℕ
effect_releases p img (effects.gives change) = change_releases p change img
effect_releases p img (effects.faults kind) = []
effect_releases p img (effects.interrupts kind) = []

abbrev pub row_releases : TableRow → Code → Image → ℕ → Registers → ℕ → List ℕ
row_releases (private_part change) code img p r next = []
row_releases (action program) code img p r next = effect_releases p img (asked img (program code r next))

abbrev pub fetched_releases : Code → Image → ℕ → Registers → Result (Operator × ℕ) BadCode → List ℕ
fetched_releases code img p r (Err bad) = []
fetched_releases code img p r (Ok found) = row_releases (row found.0 r.place) code img p r found.1

abbrev pub registers_releases : Code → Image → ℕ → Option Registers → List ℕ
registers_releases code img p None = []
registers_releases code img p (Some r) = fetched_releases code img p r (operator_at code r)

-- what is not performed releases nobody
abbrev pub released_by : Outcome Image → List ℕ → List ℕ
released_by (gives new) processes = processes
released_by (faults kind) processes = []
released_by (interrupts kind) processes = []
released_by limit processes = []

-- The processes that the next operator of a process makes able, in their order.
abbrev pub releases : Code → Image → ℕ → List ℕ
releases code img p = released_by (table code img p) (registers_releases code img p (numbered img.regs p))

-- ---- whom it starts

-- the newest process, where there is one more than there were
abbrev pub started_between : ℕ → ℕ → Option ℕ
started_between before after = if nat_lt before after then Some after else None

abbrev pub started_by : Image → Outcome Image → Option ℕ
started_by img (gives new) = started_between img.started new.started
started_by img (faults kind) = None
started_by img (interrupts kind) = None
started_by img limit = None

-- The process that the next operator of a process starts, where it starts one.
abbrev pub operator_starts : Code → Image → ℕ → Option ℕ
operator_starts code img p = started_by img (table code img p)
