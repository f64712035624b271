-- What the calls on a plant do to it.
use Rattle.std.specs.Prelude.{◌≡◌, ℕ, ◌+◌, ◌-◌, ◌<◌, nat_lt, Bool, true, false, List, [], ◌∷◌, ◌++◌, length, replicate, slice_get, remove, Option, Some, None}
use Rattle.b67_list.specs.Numbered.{set_numbered}
use Rattle.b67_deeds.specs.declared.Letter.{Letter}
use Rattle.b67_schedule.specs.Schedules.{entries}
use Rattle.b67_segment.specs.declared.code.Code.{Code}
use Rattle.b67_table.specs.Limits.{most_processes}
use Rattle.b67_action.specs.Able.{one_if}
use Rattle.b67_action.specs.declared.done.Done.{Done}
use Rattle.b67_machine.specs.Beginning.{IsFresh}
use Rattle.b67_machine.specs.Entries as chains
use Rattle.b67_machine.specs.declared.entry.Performed.{Performed}
use Rattle.b67_machine.specs.Stepping.{operators_in, MachineGoes, MachinePerforms}
use Rattle.b67_ready.specs.Ready.{counted_on}
use Rattle.b67_joining.specs.Joining.{joining}
use Rattle.b67_stands.specs.Running.{Running}

-- ---- before the first take

-- process 1 waits, nobody is out, and nothing was done
pub record IsFirst (code : Code) (s : Running) : Type 0 where
  pub fresh : IsFresh s.machine
  pub same : s.machine.code ≡ code
  pub waiting : s.waiting ≡ 1 ∷ []
  pub takes : s.takes ≡ 0
  pub out : s.out ≡ replicate most_processes 0
  pub schedule : s.schedule.runs ≡ []
  pub letters : s.schedule.letters ≡ []
  pub spent : s.spent ≡ 0
  pub acts : s.acts ≡ 0
  pub leaves : s.leaves ≡ 0

-- ---- a take

-- the process at the place that is picked is out with the processor, and the others close up
pub record TakesOne (pick : ℕ → ℕ → ℕ) (me : ℕ) (old : Running) (p : ℕ) (new : Running) : Type 0 where
  pub picked : slice_get old.waiting (pick (length old.waiting) old.takes) ≡ Some p
  pub new_is : new ≡ record old {
    waiting = remove old.waiting (pick (length old.waiting) old.takes);
    takes = counted_on old.takes;
    out = set_numbered old.out p me;
  }

-- ---- a landing

-- so many plain operators of the process have landed
pub record LandsOnce (old : Running) (p n : ℕ) (new : Running) : Type 0 where
  pub machine : MachineGoes old.machine p n new.machine
  pub new_is : new ≡ record old { machine = new.machine; spent = old.spent + n }

-- the process is out no more, and stands at the rear of the queue
abbrev pub GoesBack : Running → ℕ → Running → Type 0
GoesBack old p new = new ≡ record old { waiting = old.waiting ++ p ∷ []; out = set_numbered old.out p 0 }

-- ---- an act

-- a letter is noted after these
abbrev pub LetterNoted : List Letter → Option Letter → List Letter → Type 0
LetterNoted before None after = ⊥
LetterNoted before (Some l) after = after ≡ before ++ l ∷ []

-- whether an action was performed: a fault is one
abbrev pub done_is_action : Option Done → Bool
done_is_action None = false
done_is_action (Some done) = nat_lt 0 (operators_in done)

-- the entry is on the schedule with the letter of the machine's last action, the process is out no more, and who can go on is in the queue
pub record PlantEnters (old : Running) (p : ℕ) (new : Running) : Type 0 where
  pub schedule : entries new.schedule.runs ≡ entries old.schedule.runs ++ p ∷ []
  pub letter : LetterNoted old.schedule.letters new.machine.letter new.schedule.letters
  pub out : new.out ≡ set_numbered old.out p 0
  pub waiting : new.waiting ≡ old.waiting ++ joining old.machine.image.started new.machine.image p new.machine.released
  pub acts : new.acts ≡ old.acts + 1

pub record Stays (old new : Running) : Type 0 where
  pub schedule : new.schedule ≡ old.schedule
  pub out : new.out ≡ old.out
  pub waiting : new.waiting ≡ old.waiting
  pub acts : new.acts ≡ old.acts

abbrev pub Records : Bool → Running → ℕ → Running → Type 0
Records true old p new = PlantEnters old p new
Records false old p new = Stays old new

-- So many plain operators of the process, and then its action, within the budget. Where no action was performed, nothing is recorded.
pub record ActsOnce (budget : ℕ) (old : Running) (p : ℕ) (performed : Performed) (new : Running) : Type 0 where
  pub machine : MachinePerforms old.machine p (budget - old.spent) performed new.machine
  pub spent : new.spent ≡ old.spent + performed.plain + one_if (done_is_action performed.done)
  pub records : Records (done_is_action performed.done) old p new
  pub takes : new.takes ≡ old.takes
  pub leaves : new.leaves ≡ old.leaves

-- ---- a run

-- Entries of a process that is out have landed, one after another, with these letters and so many operators in all, fewer than the budget
-- has left. Each goes on, and releases and starts nobody: the process stays out, and nobody joins the queue.
pub record RunsOn (budget : ℕ) (old : Running) (p : ℕ) (letters : List Letter) (operators : ℕ) (new : Running) : Type 0 where
  pub machine : chains.EntriesFollow p (budget - old.spent) old.machine letters operators new.machine
  pub within : old.spent + operators < budget
  pub order : entries new.schedule.runs ≡ entries old.schedule.runs ++ replicate (length letters) p
  pub noted : new.schedule.letters ≡ old.schedule.letters ++ letters
  pub new_is : new ≡ record old { machine = new.machine; schedule = new.schedule; spent = old.spent + operators; acts = old.acts + length letters }

-- ---- a leave

-- a processor has left
abbrev pub Leaves : Running → Running → Type 0
Leaves old new = new ≡ record old { leaves = old.leaves + 1 }
