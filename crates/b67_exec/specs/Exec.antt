-- What a run by turns leaves on a machine, and why it stopped.
use Rattle.std.specs.Prelude.{◌≡◌, ◌⊎◌, ℕ, ◌<◌, true, List, [], ◌∷◌, length, Option, Some, None}
use Rattle.b67_segment.specs.declared.code.Code.{Code}
use Rattle.b67_table.specs.Outcome.{interrupts, limit}
use Rattle.b67_table.specs.Image.{Image}
use Rattle.b67_table.specs.Table.{table, stack_length}
use Rattle.b67_table.specs.Ending.{finished, faulted, all_waiting, image_end}
use Rattle.b67_intrinsics.specs.Called.{ImageIsLeft}
use Rattle.b67_action.specs.Able.{number_times}
use Rattle.b67_action.specs.Done.{MakesNext}
use Rattle.b67_machine.specs.declared.reads.End.{End}
use Rattle.b67_machine.specs.declared.reads.End.TheVariants as ends
use Rattle.b67_machine.specs.Kept.{MachineModel, operators_counted}
use Rattle.b67_exec.specs.declared.Stopped.{Stopped}
use Rattle.b67_exec.specs.declared.Stopped.TheVariants.{Finished, Fault, AllWaiting, Interrupt, StackLimit, BudgetSpent}
use Rattle.b67_exec.specs.Turns.{Turns, ran, exec_run}

-- ---- why it stopped

-- the next operator of this process stops the run so
abbrev pub OperatorStops : Code → Image → ℕ → Stopped → Type 0
OperatorStops code img p (Interrupt kind q) = (q ≡ p) × (table code img p ≡ interrupts kind)
OperatorStops code img p (StackLimit q words) = (q ≡ p) × (words ≡ stack_length p img) × (table code img p ≡ limit)
OperatorStops code img p why = ⊥

-- the next operator of the process at the front does
abbrev pub FrontStops : Code → Image → List ℕ → Stopped → Type 0
FrontStops code img [] why = ⊥
FrontStops code img (p ∷ others) why = OperatorStops code img p why

-- The image has that end. Or it has none, and as many operators were performed as were allowed, or fewer and the next one stops the run.
abbrev pub IsCause : Code → ℕ → Turns → Stopped → Type 0
IsCause code budget t Finished = image_end t.image ≡ Some finished
IsCause code budget t (Fault kind p) = image_end t.image ≡ Some (faulted kind p)
IsCause code budget t AllWaiting = image_end t.image ≡ Some all_waiting
IsCause code budget t BudgetSpent = (image_end t.image ≡ None) × (length t.done ≡ budget)
IsCause code budget t (Interrupt kind p) = (image_end t.image ≡ None) × (length t.done < budget) × FrontStops code t.image t.queue (Interrupt kind p)
IsCause code budget t (StackLimit p words) =
    (image_end t.image ≡ None) × (length t.done < budget) × FrontStops code t.image t.queue (StackLimit p words)

-- ---- the machine

-- how many operators are each process's
abbrev pub CountsAre : List ℕ → List ℕ → Type 0
CountsAre counts done = (p : ℕ) → operators_counted counts p ≡ number_times p done

-- The run of this code by turns has stopped so, and the machine has its image and its counts.
pub record ExecRun (code : Code) (budget : ℕ) (new : MachineModel) (why : Stopped) : Type 0 where
  pub turns : Turns
  pub runs : exec_run code budget ≡ ran turns why
  pub cause : IsCause code budget turns why
  pub image : new.image ≡ turns.image
  pub counts : CountsAre new.counts turns.done
  pub same : new.code ≡ code

-- the next operator of the process at the front calls an intrinsic that makes something
abbrev pub FrontMakes : Code → Image → List ℕ → Type 0
FrontMakes code img [] = ⊥
FrontMakes code img (p ∷ others) = MakesNext code img p

-- Fewer operators than the budget are performed, and there was no memory for what the next one makes; a closed row may have left an empty
-- place.
pub record ExecLacks (code : Code) (budget : ℕ) (new : MachineModel) : Type 0 where
  pub performed : ℕ
  pub below : performed < budget
  pub turns : Turns
  pub runs : exec_run code performed ≡ ran turns BudgetSpent
  pub makes : FrontMakes code turns.image turns.queue
  pub image : ImageIsLeft turns.image new.image
  pub counts : CountsAre new.counts turns.done
  pub lacked : new.lacked ≡ true
  pub same : new.code ≡ code

-- there was no memory: for the queue, and then nothing was performed, or for what an operator makes
abbrev pub Lacks : ℕ → MachineModel → MachineModel → Type 0
Lacks budget old new = (new ≡ old) ⊎ ExecLacks old.code budget new

-- how a run stopped where a machine has an end
abbrev pub stop_of : End → Stopped
stop_of ends.Finished = Finished
stop_of (ends.Fault kind p) = Fault kind p
stop_of ends.AllWaiting = AllWaiting
stop_of (ends.StackLimit p words) = StackLimit p words

abbrev pub told_stopped : Option End → Option Stopped
told_stopped None = None
told_stopped (Some end) = Some (stop_of end)
