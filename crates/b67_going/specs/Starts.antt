-- What START is given, and with what a new process begins.
use Rattle.std.specs.Prelude.{◌≡◌, ℕ, ◌+◌, ◌<◌, ◌≤◌, nat_lt, if◌then◌else◌, List, ◌∷◌, length, Option, Some, None, IfSome, Result, Ok, Err}
use Rattle.b67_num.specs.declared.FaultKind.TheVariants.{ProcessLimit}
use Rattle.b67_word.specs.declared.Place.{Place}
use Rattle.b67_word.specs.Word.{Word}
use Rattle.b67_control.specs.declared.Registers.{Registers}
use Rattle.b67_control.specs.declared.Mscw.{Mscw}
use Rattle.b67_control.specs.declared.Pcw.{Pcw}
use Rattle.b67_control.specs.Control.{Fits_pcw, as_pcw}
use Rattle.b67_store.specs.Store.{Stacks, Rows, stack_at, words_of, stack_limit}
use Rattle.b67_table.specs.declared.Cell.{Cell}
use Rattle.b67_table.specs.declared.Reached.{Reached}
use Rattle.b67_table.specs.Image.{Image}
use Rattle.b67_table.specs.Limits.{most_cells, most_processes}
use Rattle.b67_table.specs.Private.{frame}
use Rattle.b67_table.specs.Chains.{place}
use Rattle.b67_table.specs.Look.{Look, found, ◌>->◌, valid}
use Rattle.b67_table.specs.References.{reached}
use Rattle.b67_table.specs.Program.{Test, Program, answer, fault, started, ◌>>=◌, see}
use Rattle.b67_table.specs.Starting.{Starting, starting, first_display, on_path, frames_with, named_frames, process_begun}
use Rattle.b67_linkage.specs.Held.{IsLinked}
use Rattle.b67_reach.specs.declared.Stop.{Stop}
use Rattle.b67_reach.specs.declared.Parts.{Parts}
use Rattle.b67_reach.specs.Answers.{ProgramActs}
use Rattle.b67_intrinsics.specs.Called.{mark_below}
use Rattle.b67_going.specs.Paths.{some_words}
use Rattle.b67_going.specs.declared.starts.Given.{Given}
use Rattle.b67_going.specs.declared.processes.Unstarted.{Unstarted}
use Rattle.b67_going.specs.declared.processes.Unstarted.TheVariants.{Stopped, NoMemory}

-- what START is given, with the words of its parameters
abbrev pub starting_of : Stacks → Given → Starting
starting_of stacks t = record {
  procedure = t.procedure;
  home = t.needs.home;
  task = t.needs.task;
  parameters = some_words stacks t.needs.stack t.needs.first t.needs.count;
}

-- its parameters are there and few, and its task has a place
pub record StartIsGiven (stacks : Stacks) (t : Given) : Type 0 where
  pub procedure : Fits_pcw t.procedure
  pub few : t.needs.count ≤ most_cells
  pub there : t.needs.first + t.needs.count ≤ length (words_of stacks t.needs.stack)
  pub low : t.needs.first + t.needs.count ≤ stack_limit
  pub task : IfSome t.needs.task (λ c. c.frame.at + c.index < stack_limit)

-- the registers of the process of this number, where there can be one
abbrev pub if_number : ℕ → Registers → Test Registers
if_number n r = if nat_lt n most_processes then answer r else fault ProcessLimit

-- with what a new process begins, where there have been so many
abbrev pub started_first_registers : Registers → ℕ → Starting → Test Registers
started_first_registers r n t =
    see (first_display (n + 1) t) >>= (λ (display : List (Option Place)).
    on_path r.stack (t.home ∷ frames_with t.task (named_frames t.parameters)) (place r.stack (frame r)) >>= (λ (c : Option Place).
    if_number n (process_begun (n + 1) t display c)))

-- ---- the operator

-- the procedure that a reference reaches, and the frame in which it lies
abbrev pub procedure_of : Option Cell → Look (Pcw × Place)
procedure_of c = reached c >-> (λ (w : Reached). valid (as_pcw w.word) >-> (λ (pcw : Pcw). found (pcw, w.cell.frame)))

-- what START is given, in the table's words
abbrev pub given_in : Stacks → Result Given Stop → Result Starting Stop
given_in stacks (Ok t) = Ok (starting_of stacks t)
given_in stacks (Err stop) = Err stop

-- what a process begins with, and its registers
pub record Beginning : Type 0 where
  pub starting : Starting
  pub regs : Registers

-- the tests of START
abbrev pub beginning : Registers → Mscw → List Word → Test Beginning
beginning r m words =
    starting r words >>= (λ (t : Starting). see (mark_below r m) >>= (λ (lower : Mscw). started (λ (n : ℕ).
    started_first_registers r n t >>= (λ (q : Registers). answer (record { starting = t; regs = q })))))

abbrev pub beginning_in : Stacks → Result (Given × Registers) Stop → Result Beginning Stop
beginning_in stacks (Ok b) = Ok (record { starting = starting_of stacks b.0; regs = b.1 })
beginning_in stacks (Err stop) = Err stop

-- What START does in an image: it does what its program does, and answers the number of the new process; or it is stopped as the program
-- is. Without memory nothing is changed.
abbrev pub Starts : ℕ → Program → Image → Image → Result ℕ Unstarted → Type 0
Starts p program old new (Ok n) = ProgramActs {A = ℕ} p program old new (Ok n)
Starts p program old new (Err (Stopped stop)) = ProgramActs {A = ℕ} p program old new (Err stop)
Starts p program old new (Err NoMemory) = new ≡ old

-- a process that is linked has its mark at F and a procedure's word above it
abbrev pub IsCalling : Stacks → Rows → Option Registers → Type 0
IsCalling stacks rows None = ⊥
IsCalling stacks rows (Some r) = IsLinked stacks rows r × (r.f + 2 ≤ r.s)

-- the number of the next process is free, and there have been no more processes than a run has
pub record HasNext (stacks : Stacks) (parts : Parts) : Type 0 where
  pub free : stack_at stacks (parts.started + 1) ≡ None
  pub each : length parts.regs.items ≡ length parts.states.items
  pub numbers : length parts.regs.items ≡ length parts.numbers.items
  pub most : parts.started ≤ most_processes
