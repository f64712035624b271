-- What one turn does to a machine and a queue.
use Rattle.std.specs.Prelude.{◌≡◌, ℕ, ◌≤◌, true, false, List, ◌∷◌, length, Option, Some, None, Result, Ok, Err}
use Rattle.std.specs.declared.alloc.AllocError.{AllocError}
use Rattle.b67_table.specs.Image.{Image}
use Rattle.b67_table.specs.Limits.{most_processes}
use Rattle.b67_intrinsics.specs.Called.{ImageIsLeft}
use Rattle.b67_machine.specs.Kept.{MachineModel, Counts, operators_counted}
use Rattle.b67_joining.specs.Joining.{IsQueue}
use Rattle.b67_exec.specs.declared.Stopped.{Stopped}
use Rattle.b67_exec.specs.Turns.{Turns, exec_turn, goes}
use Rattle.b67_exec.specs.Exec.{FrontStops, FrontMakes}

-- what a queue rests on: there is a process, and at most as many as a run may have, each in a state
pub record IsListed (img : Image) : Type 0 where
  pub states : length img.states ≡ img.started
  pub some : 1 ≤ img.started
  pub most : img.started ≤ most_processes

-- where the machine and the queue stand, after the operators of these processes
abbrev pub turns_at : MachineModel → List ℕ → List ℕ → Turns
turns_at m queue done = record { image = m.image; queue = queue; done = done }

-- the operator of the process at the front is performed or at fault
pub record TurnGoes (old : MachineModel) (queue : List ℕ) (new : MachineModel) (next : List ℕ) : Type 0 where
  pub front : ℕ
  pub turns : (done : List ℕ) → exec_turn old.code (turns_at old queue done) ≡ goes (turns_at new next (front ∷ done))
  pub counts : Counts old.counts front 1 new.counts
  pub is_queue : IsQueue new.image next
  pub listed : IsListed new.image
  pub limit : new.limit ≡ None
  pub lacked : new.lacked ≡ false
  pub same : new.code ≡ old.code

-- it is not, and all is as it was
pub record TurnStops (old : MachineModel) (queue : List ℕ) (why : Stopped) (new : MachineModel) : Type 0 where
  pub stops : FrontStops old.code old.image queue why
  pub image : new.image ≡ old.image
  pub counts : (p : ℕ) → operators_counted new.counts p ≡ operators_counted old.counts p
  pub same : new.code ≡ old.code

-- there is no memory for what it makes
pub record TurnLacks (old : MachineModel) (queue : List ℕ) (new : MachineModel) : Type 0 where
  pub makes : FrontMakes old.code old.image queue
  pub image : ImageIsLeft old.image new.image
  pub counts : (p : ℕ) → operators_counted new.counts p ≡ operators_counted old.counts p
  pub lacked : new.lacked ≡ true
  pub same : new.code ≡ old.code

-- what a turn answers
abbrev pub Turned : MachineModel → List ℕ → Result (Option Stopped) AllocError → MachineModel → List ℕ → Type 0
Turned old queue (Ok None) new next = TurnGoes old queue new next
Turned old queue (Ok (Some why)) new next = TurnStops old queue why new
Turned old queue (Err lack) new next = TurnLacks old queue new
