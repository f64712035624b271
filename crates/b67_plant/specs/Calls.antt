-- What the calls on a plant answer.
use Rattle.std.specs.Prelude.{◌≡◌, ◌≢◌, ◌⊎◌, ℕ, zero, suc, ◌+◌, ◌≤◌, nat_le, Bool, true, false, List, [], take, Option, Some, None}
use Rattle.b67_deeds.specs.declared.Letter.{Letter}
use Rattle.b67_segment.specs.declared.code.Code.{Code}
use Rattle.b67_word.specs.Word.{Word}
use Rattle.b67_table.specs.declared.Private.{Private}
use Rattle.b67_action.specs.declared.done.Done.{Done}
use Rattle.b67_action.specs.declared.done.Done.TheVariants as dones
use Rattle.b67_machine.specs.declared.entry.Performed.{Performed}
use Rattle.b67_machine.specs.declared.replay.Replayed.{Replayed}
use Rattle.b67_machine.specs.declared.replay.Replayed.TheVariants.{Ended, BudgetSpent, NoMemory}
use Rattle.b67_machine.specs.Stepping.{lacks}
use Rattle.b67_processors.specs.declared.Acted.{Acted}
use Rattle.b67_processors.specs.declared.Acted.TheVariants as acted
use Rattle.b67_plant.specs.declared.taking.Taken.{Taken}
use Rattle.b67_plant.specs.declared.taking.Taken.TheVariants as taken
use Rattle.b67_plant.specs.declared.taking.PlantLanding.{PlantLanding}
use Rattle.b67_plant.specs.declared.taking.PlantLanding.TheVariants as landings
use Rattle.b67_stands.specs.Running.{Running, spends, answer_of}
use Rattle.b67_stands.specs.Placing.{holder_of}
use Rattle.b67_stands.specs.Picked.{Pick}
use Rattle.b67_stands.specs.Calls.{TakesOne, RunsOn, LandsOnce, GoesBack, ActsOnce, Leaves}
use Rattle.b67_stands.specs.Turns.{ActsMany}
use Rattle.b67_machine.specs.Parts.{part_list, FirstDiffer}
use Rattle.b67_parcel.specs.Parcels.{Stretch, part_for, StartsAs, IsWorked}

-- the run has ended, and not for want of memory
abbrev pub IsOver : ℕ → Running → Type 0
IsOver budget s = (answer_of budget s ≡ Some Ended) ⊎ (answer_of budget s ≡ Some BudgetSpent)

-- ---- take

-- the process at the place that is picked is taken; or nobody waits, and nothing has changed
abbrev pub Picks : Pick → ℕ → Running → Option ℕ → Running → Type 0
Picks pick me old (Some p) new = TakesOne pick me old p new
Picks pick me old None new = (old.waiting ≡ []) × (new ≡ old)

abbrev pub PlantTakes : Pick → ℕ → ℕ → Running → Taken → ℕ → Running → Type 0
PlantTakes pick budget me old taken.Work p new = (answer_of budget old ≡ None) × TakesOne pick me old p new
PlantTakes pick budget me old taken.Idle p new = (answer_of budget old ≡ None) × (old.waiting ≡ []) × (new ≡ old)
PlantTakes pick budget me old taken.Over p new = IsOver budget old × (new ≡ old)
PlantTakes pick budget me old taken.Lacked p new = (answer_of budget old ≡ Some NoMemory) × (new ≡ old)

-- ---- land

-- the run goes on, and the parcel's process is out with the processor
abbrev pub MayLand : ℕ → ℕ → Stretch → Running → Type 0
MayLand budget me s old = (answer_of budget old ≡ None) × (holder_of old.out s.process ≡ me)

-- the letters of the entries of a parcel
abbrev pub entries_in : Stretch → List Letter
entries_in s = take s.ran.entries s.noted

-- a parcel's entries are performed, which go on the schedule, and then its plain operators
pub record PutsRun (budget : ℕ) (s : Stretch) (old new : Running) : Type 0 where
  pub between : Running
  pub runs : RunsOn budget old s.process (entries_in s) s.ran.operators between
  pub lands : LandsOnce between s.process s.ran.plain new

-- nothing of a parcel was performed, or fewer operators are left of the budget than were performed, or just as many
abbrev pub IsVain : ℕ → Stretch → Running → Type 0
IsVain budget s old = (s.ran.operators + s.ran.plain ≡ 0) ⊎ (budget ≤ old.spent + (s.ran.operators + s.ran.plain))

-- What was performed on a private part is performed on the machine. So is what was performed on a whole stack, where more operators are left of
-- the budget; else nothing is.
abbrev pub PutsParcel : ℕ → ℕ → Stretch → Running → Running → Type 0
PutsParcel zero budget s old new = LandsOnce old s.process s.ran.plain new
PutsParcel (suc n) budget s old new = PutsRun budget s old new ⊎ (IsVain budget s old × (new ≡ old))

-- What the parcel came to is put on the machine, whose process still has the parcel's start: nothing is, where it is vain. All else is as it was, and the run has
-- ended exactly where its operators have reached the budget.
pub record LandsWell (budget : ℕ) (s : Stretch) (old new : Running) : Type 0 where
  pub starts : StartsAs old.machine.image s
  pub puts : PutsParcel s.room budget s old new
  pub then : answer_of budget new ≡ spends (nat_le budget new.spent)

-- the process has another part than the parcel's start: here the words of both first differ
pub record StartsElse (s : Stretch) (old : Running) (place : ℕ) (kept given : Word) : Type 0 where
  pub part : Private
  pub has : part_for s.room old.machine.image s.process ≡ Some part
  pub differ : FirstDiffer (part_list part) (part_list s.start) place kept given

-- and it has gone back to the queue
pub record IsStale (s : Stretch) (old : Running) (place : ℕ) (kept given : Word) (new : Running) : Type 0 where
  pub starts_else : StartsElse s old place kept given
  pub back : GoesBack old s.process new

abbrev pub Lands : ℕ → ℕ → Stretch → Running → PlantLanding → Running → Type 0
Lands budget me s old landings.Landed new = MayLand budget me s old × LandsWell budget s old new
Lands budget me s old (landings.Stale place kept given) new = MayLand budget me s old × IsStale s old place kept given new
Lands budget me s old landings.NotOut new = (answer_of budget old ≡ None) × (holder_of old.out s.process ≢ me) × (new ≡ old)
Lands budget me s old landings.Over new = IsOver budget old × (new ≡ old)
Lands budget me s old landings.Lacked new = (answer_of budget old ≡ Some NoMemory) × (new ≡ old)

-- the same, but a process whose parcel is stale stays out, and all is as it was
abbrev pub LandsOrStays : ℕ → ℕ → Stretch → Running → PlantLanding → Running → Type 0
LandsOrStays budget me s old landings.Landed new = Lands budget me s old landings.Landed new
LandsOrStays budget me s old (landings.Stale place kept given) new = MayLand budget me s old × StartsElse s old place kept given × (new ≡ old)
LandsOrStays budget me s old landings.NotOut new = Lands budget me s old landings.NotOut new
LandsOrStays budget me s old landings.Over new = Lands budget me s old landings.Over new
LandsOrStays budget me s old landings.Lacked new = Lands budget me s old landings.Lacked new

-- the processor's seat has as many more acts as the book of acts
abbrev pub IsCounted : Running → ℕ → Running → ℕ → Type 0
IsCounted old before new now = (before ≤ now) × (now + old.acts ≡ before + new.acts)

-- a worked parcel of this process has landed, which a processor brought, and nothing else was done since then
pub record HasLanded (code : Code) (budget p : ℕ) (s : Running) : Type 0 where
  pub me : ℕ
  pub stretch : Stretch
  pub before : Running
  pub whose : stretch.process ≡ p
  pub worked : IsWorked code stretch
  pub landed : Lands budget me stretch before landings.Landed s

-- ---- act

-- there was no memory for the action
abbrev pub lacks_in : Option Done → Bool
lacks_in None = false
lacks_in (Some done) = lacks done

abbrev pub answer_to : Option Done → Acted
answer_to (Some dones.Waits) = acted.Waits
answer_to (Some dones.NoMemory) = acted.NoMemory
answer_to (Some dones.Went) = acted.Went
answer_to (Some dones.Ended) = acted.Went
answer_to (Some (dones.Fault kind)) = acted.Went
answer_to _ = acted.Over

-- how many acts an answer says: one where an action was performed
abbrev pub acts_in : Acted → ℕ
acts_in acted.Went = 1
acts_in acted.Waits = 1
acts_in acted.NotOut = 0
acts_in acted.Over = 0
acts_in acted.NoMemory = 0

-- what is answered where the run has ended
abbrev pub refusal : Option Replayed → Option Acted
refusal None = None
refusal (Some NoMemory) = Some acted.NoMemory
refusal (Some answer) = Some acted.Over

-- The run has ended; or the process is not out with the processor; or it acts.
abbrev pub PlantActs : ℕ → ℕ → ℕ → Running → Acted → Running → Type 0
PlantActs budget me p old answer new =
    ((refusal (answer_of budget old) ≡ Some answer) × (new ≡ old))
    ⊎ ((answer_of budget old ≡ None) × (holder_of old.out p ≢ me) × (new ≡ old) × (answer ≡ acted.NotOut))
    ⊎ ((answer_of budget old ≡ None) × (holder_of old.out p ≡ me) × ((performed : Performed) × ActsOnce budget old p performed new × (answer ≡ answer_to performed.done)))

-- The same, but where it acts, it does so after turns of its own, after each of which it is taken again.
abbrev pub ActsThen : Pick → ℕ → ℕ → ℕ → Running → Acted → ℕ → Running → Type 0
ActsThen pick budget me p old answer turns new =
    ((refusal (answer_of budget old) ≡ Some answer) × (new ≡ old) × (turns ≡ 0))
    ⊎ ((answer_of budget old ≡ None) × (holder_of old.out p ≢ me) × (new ≡ old) × (answer ≡ acted.NotOut) × (turns ≡ 0))
    ⊎ ((answer_of budget old ≡ None) × (holder_of old.out p ≡ me) × ((performed : Performed) × ActsMany pick budget old p turns performed new × (answer ≡ answer_to performed.done)))

-- ---- leave

-- a processor has left; or that can not be counted, and all is as it was
abbrev pub LeavesOr : Bool → Running → Running → Type 0
LeavesOr true old new = Leaves old new
LeavesOr false old new = new ≡ old

-- ---- want of memory

-- an action of this plant found no memory
abbrev pub HasLacked : ℕ → Running → Type 0
HasLacked budget s = answer_of budget s ≡ Some NoMemory

pub record LackingIsKept : Type 0 where
  -- an act that finds no memory leaves the plant so
  pub lacks : (budget me p : ℕ) (old new : Running) → PlantActs budget me p old acted.NoMemory new → HasLacked budget new
  -- and then each call says it, and all is as it was
  pub act : (budget me p : ℕ) (old : Running) (answer : Acted) (new : Running) → HasLacked budget old → PlantActs budget me p old answer new → (answer ≡ acted.NoMemory) × (new ≡ old)
  pub take : (pick : Pick) (budget me : ℕ) (old : Running) (answer : Taken) (p : ℕ) (new : Running) → HasLacked budget old → PlantTakes pick budget me old answer p new → (answer ≡ taken.Lacked) × (new ≡ old)
  pub land : (budget me : ℕ) (s : Stretch) (old : Running) (answer : PlantLanding) (new : Running) → HasLacked budget old → Lands budget me s old answer new → (answer ≡ landings.Lacked) × (new ≡ old)
  -- but that processors leave
  pub leave : (budget : ℕ) (old : Running) (has_left : Bool) (new : Running) → HasLacked budget old → LeavesOr has_left old new → HasLacked budget new × (new.machine ≡ old.machine)
