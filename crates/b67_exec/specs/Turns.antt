-- The run of a code by turns, for any code: a turn takes the process at the front of a queue and performs its next operator.
use Rattle.std.specs.Prelude.{ℕ, zero, suc, ◌+◌, List, [], ◌∷◌, ◌++◌, Option, Some, None}
use Rattle.b67_segment.specs.declared.code.Code.{Code}
use Rattle.b67_table.specs.Outcome.{Outcome, gives, faults, interrupts, limit}
use Rattle.b67_table.specs.Image.{Image}
use Rattle.b67_table.specs.Table.{table, stack_length}
use Rattle.b67_table.specs.Ending.{ImageEnd, finished, faulted, all_waiting, image_end, failed}
use Rattle.b67_table.specs.Beginning.{first_image}
use Rattle.b67_letters.specs.Releases.{releases}
use Rattle.b67_action.specs.Able.{number_times}
use Rattle.b67_joining.specs.Joining.{joining}
use Rattle.b67_exec.specs.declared.Stopped.{Stopped}
use Rattle.b67_exec.specs.declared.Stopped.TheVariants as stopped

-- ---- who goes to the rear of the queue

-- after an operator of a process the released, in their order, then the one that was started, then the process itself where it is able
abbrev pub to_rear : Code → ℕ → Image → Image → List ℕ
to_rear code p old new = joining old.started new p (releases code old p)

-- ---- turns

-- where a run by turns stands: the image, the queue with its front first, and whose operators were performed, the last one first
pub record Turns : Type 0 where
  pub image : Image
  pub queue : List ℕ
  pub done : List ℕ

-- process 1 is in the queue, and nothing was performed
abbrev pub first_turns : Turns
first_turns = record { image = first_image; queue = 1 ∷ []; done = [] }

-- what a turn comes to: the run goes on from here, or it has stopped
pub data Turn : Type 0 where
  goes : Turns → Turn
  stops : Stopped → Turn

-- an operator of the front process has made this image, and is counted
abbrev pub turned : Code → Turns → ℕ → List ℕ → Image → Turns
turned code t p others new = record { image = new; queue = others ++ to_rear code p t.image new; done = p ∷ t.done }

-- the turn of the front process, by what the table gives; an operator that is at fault is counted, one that interrupts is not
abbrev pub turn_by : Code → Turns → ℕ → List ℕ → Outcome Image → Turn
turn_by code t p others (gives new) = goes (turned code t p others new)
turn_by code t p others (faults kind) = goes (turned code t p others (failed t.image p kind))
turn_by code t p others (interrupts kind) = stops (stopped.Interrupt kind p)
turn_by code t p others limit = stops (stopped.StackLimit p (stack_length p t.image))

-- nobody is in the queue where no process is able
abbrev pub turn_in : Code → Turns → List ℕ → Turn
turn_in code t [] = stops stopped.AllWaiting
turn_in code t (p ∷ others) = turn_by code t p others (table code t.image p)

abbrev pub stopped_by : ImageEnd → Stopped
stopped_by finished = stopped.Finished
stopped_by (faulted kind p) = stopped.Fault kind p
stopped_by all_waiting = stopped.AllWaiting

-- an end of the run is looked at first
abbrev pub turn_unless : Code → Turns → Option ImageEnd → Turn
turn_unless code t (Some end) = stops (stopped_by end)
turn_unless code t None = turn_in code t t.queue

abbrev pub exec_turn : Code → Turns → Turn
exec_turn code t = turn_unless code t (image_end t.image)

-- ---- runs

-- where a run by turns has stopped, and why
pub record Ran : Type 0 where
  pub turns : Turns
  pub why : Stopped

abbrev pub ran : Turns → Stopped → Ran
ran t why = record { turns = t; why = why }

-- so many operators were performed as were allowed: an end comes before that
abbrev pub spent_unless : Option ImageEnd → Stopped
spent_unless (Some end) = stopped_by end
spent_unless None = stopped.BudgetSpent

abbrev pub go_on : (Turns → Ran) → Turns → Turn → Ran
go_on next t (goes new) = next new
go_on next t (stops why) = ran t why

-- the run from here, where so many more operators are allowed
abbrev pub exec_from : Code → ℕ → Turns → Ran
exec_from code zero t = ran t (spent_unless (image_end t.image))
exec_from code (suc n) t = go_on (λ (new : Turns). exec_from code n new) t (exec_turn code t)

-- The run of a code by turns with a budget of so many operators. It stops at an end, at an interrupt, at the stack limit, or after so
-- many operators.
unfoldable pub exec_run : Code → ℕ → Ran
exec_run code budget = exec_from code budget first_turns

-- ---- counts

-- how many operators each of so many processes has performed, from this one on
abbrev pub counts_from : ℕ → ℕ → List ℕ → List ℕ
counts_from p zero done = []
counts_from p (suc n) done = number_times p done ∷ counts_from (p + 1) n done

-- of all processes that there have been
abbrev pub counts_of : Turns → List ℕ
counts_of t = counts_from 1 t.image.started t.done
