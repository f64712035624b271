-- Leaving a frame, in parts.
use Rattle.std.specs.Prelude.{◌≡◌, ℕ, ◌&&◌, not, nat_eq, if◌then◌else◌, Bool, true, false, List, [], ◌∷◌, Option, Some, None, Result, Ok, Err}
use Rattle.b67_list.specs.Numbered.{set_numbered}
use Rattle.b67_num.specs.declared.FaultKind.TheVariants.{CriticalBlockExit}
use Rattle.b67_word.specs.declared.Place.{Place}
use Rattle.b67_word.specs.Word.{Word}
use Rattle.b67_control.specs.declared.Registers.{Registers}
use Rattle.b67_store.specs.Store.{Stacks, Rows}
use Rattle.b67_deeds.specs.declared.EventAct.TheVariants as act
use Rattle.b67_deeds.specs.Deeds.{acts}
use Rattle.b67_events.specs.Events.{Event, Events, closed_from, waiters_at, unlisted, done_at}
use Rattle.b67_table.specs.declared.InterruptKind.{InterruptKind}
use Rattle.b67_table.specs.declared.Leaving.{Leaving}
use Rattle.b67_table.specs.Look.{Look, found, ◌>->◌}
use Rattle.b67_table.specs.Private.{frame}
use Rattle.b67_table.specs.Program.{Program, see}
use Rattle.b67_table.specs.References.{popped, invalid}
use Rattle.b67_table.specs.Rows.{is_result}
use Rattle.b67_table.specs.Linkage.{leave_base, leave_other}
use Rattle.b67_table.specs.Writes.{told_positions}
use Rattle.b67_linkage.specs.Held.{HeldCore, held, IsLinked}
use Rattle.b67_linkage.specs.Leaving.{own_cells, frame_left, base_left}
use Rattle.b67_reach.specs.declared.Stop.{Stop}
use Rattle.b67_reach.specs.declared.Stop.TheVariants.{Interrupt, Fault}

-- ---- a process among others

-- the calls may be made for a process that has these registers
abbrev pub IsLinkedIn : Stacks → Rows → Option Registers → Type 0
IsLinkedIn stacks rows None = ⊥
IsLinkedIn stacks rows (Some r) = IsLinked stacks rows r

-- a program of a process
abbrev pub program_in : (Registers → ℕ → Program) → Option Registers → ℕ → Program
program_in program None next = see invalid
program_in program (Some r) next = program r next

-- stacks, rows and the registers of all processes are those that one of them has left
pub record HasLeft (h : HeldCore) (p : ℕ) (all : List Registers) (stacks : Stacks) (rows : Rows) (new : List Registers) : Type 0 where
  pub stacks_are : stacks ≡ h.stacks
  pub rows_are : rows ≡ h.rows
  pub registers_are : new ≡ set_numbered all p h.regs

-- ---- a frame that is not the base frame

-- the value that stands in the place of a frame, where there is one
abbrev pub valued : Option Word → List Word
valued None = []
valued (Some w) = w ∷ []

-- the program, in a process with these stacks
abbrev pub leaves : Stacks → Rows → Option Word → Registers → ℕ → Program
leaves stacks rows value r next = leave_other r (own_cells (held stacks rows r)) (frame r) (valued value)

-- a process has left its frame
abbrev pub HasLeftFrame : Stacks → Rows → List Registers → ℕ → Leaving → Option Word → Option Registers → Stacks → Rows → List Registers → Type 0
HasLeftFrame stacks rows all p l value None = λ (a : Stacks) (b : Rows) (c : List Registers). ⊥
HasLeftFrame stacks rows all p l value (Some r) = HasLeft (frame_left (held stacks rows r) (valued value) l) p all

-- what leaving a frame finds below it, where it is the critical place of a live process or not
abbrev pub below_found : Result Leaving InterruptKind → Bool → Result Leaving Stop
below_found (Err kind) critical = Err (Interrupt kind)
below_found (Ok l) true = Err (Fault CriticalBlockExit)
below_found (Ok l) false = Ok l

-- the value on top, which can be a result, where the frame is not the base frame
abbrev pub returned : Registers → Look Word
returned r = popped r >-> (λ (x : Word). if is_result x && not (nat_eq (frame r) 0) then found x else invalid)

-- ---- the base frame

-- the program, in a process with these stacks
abbrev pub program_ends : Stacks → Rows → Registers → ℕ → Program
program_ends stacks rows r next = leave_base r (own_cells (held stacks rows r)) next

-- a process has left its base frame, and its pointer is at a place
abbrev pub HasLeftBase : Stacks → Rows → List Registers → ℕ → ℕ → Option Registers → Stacks → Rows → List Registers → Type 0
HasLeftBase stacks rows all p next None = λ (a : Stacks) (b : Rows) (c : List Registers). ⊥
HasLeftBase stacks rows all p next (Some r) = HasLeft (record (base_left (held stacks rows r)) { regs = record r { place = next } }) p all

-- the kernel after a task's event is caused, where it is open, the processes that this releases, and the woken numbers then
abbrev pub task_caused : Option Place → Events → Events
task_caused None k = k
task_caused (Some task) k = record k { events = done_at (acts act.Cause) 0 task k.events; lists = unlisted (waiters_at task k.events) k.lists }

abbrev pub task_waiters : Option Place → List Event → List ℕ
task_waiters None events = []
task_waiters (Some task) events = waiters_at task events

abbrev pub task_numbers : Option Place → Events → List ℕ → List ℕ
task_numbers None k numbers = numbers
task_numbers (Some task) k numbers = told_positions task k.lists (waiters_at task k.events) numbers

-- the processes that EXIT releases, where these were released before
abbrev pub released : Option Registers → List Event → List ℕ → List ℕ
released None events before = before
released (Some r) events before = if nat_eq (frame r) 0 then task_waiters r.task (closed_from r.stack 0 events) else before
