-- Whether an entry lacked memory, and what a plant that did so answers.
use Rattle.std.proofs.Common.{◌≡◌, ◌⊎◌, refl, ap, sym, subst, ◌∙◌, ℕ, Bool, true, false, inl, inr, Option, Some, None}
use Rattle.std.specs.Prelude.{◌-◌, nat_le}
use Rattle.b67_action.specs.declared.done.Done.{Done}
use Rattle.b67_machine.specs.declared.entry.Performed.{Performed}
use Rattle.b67_machine.specs.Kept.{MachineModel}
use Rattle.b67_machine.specs.Stepping.{StepsBy, MachineFollows, MachinePerforms}
use Rattle.b67_action.specs.declared.done.Done.TheVariants as dones
use Rattle.b67_machine.specs.declared.replay.Replayed.{Replayed}
use Rattle.b67_machine.specs.declared.replay.Replayed.TheVariants.{Ended, BudgetSpent, NoMemory}
use Rattle.b67_machine.specs.Reads.{machine_end}
use Rattle.b67_machine.proofs.Going.{still_goes}
use Rattle.b67_machine.proofs.Lasting.{went_goes}
use Rattle.b67_processors.specs.declared.Acted.{Acted}
use Rattle.b67_processors.specs.declared.Acted.TheVariants as acted
use Rattle.b67_stands.specs.Picked.{Pick}
use Rattle.b67_stands.specs.Running.{Running, answer_by, answer_of}
use Rattle.b67_plant.specs.declared.taking.Taken.{Taken}
use Rattle.b67_plant.specs.declared.taking.Taken.TheVariants as taken
use Rattle.b67_plant.specs.declared.taking.PlantLanding.{PlantLanding}
use Rattle.b67_plant.specs.declared.taking.PlantLanding.TheVariants as landings
use Rattle.b67_parcel.specs.Parcels.{Stretch}
use Rattle.b67_plant.specs.Calls.{lacks_in, PlantActs, PlantTakes, Lands, LeavesOr, HasLacked, IsOver, answer_to, refusal}

module _ (old new : MachineModel) (p most : ℕ) (performed : Performed) (none : old.lacked ≡ false) (performs : MachinePerforms old p most performed new) where
  between : performs.between.lacked ≡ false
  between = ap (λ (k : MachineModel). k.lacked) performs.plains.others ∙ none

  by : (o : Option Done) → MachineFollows performs.between p performed.plain most o new → new.lacked ≡ lacks_in o
  by None f = ap (λ (k : MachineModel). k.lacked) f.1 ∙ between
  by (Some done) f = (subst (λ (b : Bool). StepsBy b performs.between p done new) between f.2).lacked

  pub lacked_after : new.lacked ≡ lacks_in performed.done
  lacked_after = by performed.done performs.then

  -- where the action went on, the run does
  pub went_on : machine_end old ≡ None → performed.done ≡ Some dones.Went → machine_end new ≡ None
  went_on end went = goes performed.done went performs.then
    where
      goes : (o : Option Done) → o ≡ Some dones.Went → MachineFollows performs.between p performed.plain most o new → machine_end new ≡ None
      goes None e f = cc
      goes (Some dones.Went) e f =
          went_goes performs.between new p (still_goes old performs.between p performed.plain end performs.plains)
          (subst (λ (b : Bool). StepsBy b performs.between p dones.Went new) between f.2)
      goes (Some dones.Waits) e f = cc
      goes (Some dones.Ended) e f = cc
      goes (Some (dones.Fault kind)) e f = cc
      goes (Some (dones.Interrupt kind)) e f = cc
      goes (Some dones.StackLimit) e f = cc
      goes (Some dones.NoMemory) e f = cc

-- ---- a machine that lacks memory

-- an operator that finds none leaves it so
lacks_now : (b : Bool) (old new : MachineModel) (p : ℕ) → b ≡ old.lacked → StepsBy b old p dones.NoMemory new → new.lacked ≡ true
lacks_now true old new p is steps = ap (λ (k : MachineModel). k.lacked) steps.1 ∙ sym is
lacks_now false old new p is steps = steps.lacked

found_none : (old new : MachineModel) (p most : ℕ) (performed : Performed) → acted.NoMemory ≡ answer_to performed.done → MachinePerforms old p most performed new → new.lacked ≡ true
found_none old new p most performed e performs = by performed.done e performs.then
  where
    by : (o : Option Done) → acted.NoMemory ≡ answer_to o → MachineFollows performs.between p performed.plain most o new → new.lacked ≡ true
    by None e f = cc
    by (Some dones.NoMemory) e f = lacks_now performs.between.lacked performs.between new p refl f.2
    by (Some dones.Went) e f = cc
    by (Some dones.Waits) e f = cc
    by (Some dones.Ended) e f = cc
    by (Some (dones.Fault kind)) e f = cc
    by (Some (dones.Interrupt kind)) e f = cc
    by (Some dones.StackLimit) e f = cc

-- ---- the calls on a plant

has_lacked : (budget : ℕ) (s : Running) → s.machine.lacked ≡ true → HasLacked budget s
has_lacked budget s e = ap (λ (b : Bool). answer_by b (machine_end s.machine) (nat_le budget s.spent)) e

refused : (o : Option Replayed) → refusal o ≡ Some acted.NoMemory → o ≡ Some NoMemory
refused None e = cc
refused (Some NoMemory) e = refl
refused (Some Ended) e = cc
refused (Some BudgetSpent) e = cc
refused (Some other) e = cc

pub an_act_lacks : (budget me p : ℕ) (old new : Running) → PlantActs budget me p old acted.NoMemory new → HasLacked budget new
an_act_lacks budget me p old new (inl (e, same)) = ap (answer_of budget) same ∙ refused (answer_of budget old) e
an_act_lacks budget me p old new (inr (inl (going, other, same, e))) = cc
an_act_lacks budget me p old new (inr (inr (going, mine, (performed, acts, e)))) =
    has_lacked budget new (found_none old.machine new.machine p (budget - old.spent) performed e acts.machine)

-- no run that goes on has lacked memory
going_on : (budget : ℕ) (s : Running) {A : Type 0} → HasLacked budget s → answer_of budget s ≡ None → A
going_on budget s lacked going = absurd (by (answer_of budget s) lacked going)
  where
    by : (o : Option Replayed) → o ≡ Some NoMemory → o ≡ None → ⊥
    by None lacked going = cc
    by (Some answer) lacked going = cc

-- nor one that is over
over : (budget : ℕ) (s : Running) {A : Type 0} → HasLacked budget s → IsOver budget s → A
over budget s lacked ended = absurd (by (answer_of budget s) lacked ended)
  where
    by : (o : Option Replayed) → o ≡ Some NoMemory → (o ≡ Some Ended) ⊎ (o ≡ Some BudgetSpent) → ⊥
    by None lacked ended = cc
    by (Some answer) lacked (inl ended) = cc
    by (Some answer) lacked (inr ended) = cc

pub acts_lacking : (budget me p : ℕ) (old : Running) (answer : Acted) (new : Running) → HasLacked budget old → PlantActs budget me p old answer new → (answer ≡ acted.NoMemory) × (new ≡ old)
acts_lacking budget me p old answer new lacked (inl (e, same)) = (by answer (sym e ∙ ap refusal lacked), same)
  where
    by : (answer : Acted) → Some answer ≡ Some acted.NoMemory → answer ≡ acted.NoMemory
    by answer e = cc
acts_lacking budget me p old answer new lacked (inr (inl (going, other, same, e))) = going_on budget old lacked going
acts_lacking budget me p old answer new lacked (inr (inr (going, mine, acts))) = going_on budget old lacked going

pub takes_lacking : (pick : Pick) (budget me : ℕ) (old : Running) (answer : Taken) (p : ℕ) (new : Running) → HasLacked budget old → PlantTakes pick budget me old answer p new → (answer ≡ taken.Lacked) × (new ≡ old)
takes_lacking pick budget me old taken.Work p new lacked takes = going_on budget old lacked takes.0
takes_lacking pick budget me old taken.Idle p new lacked takes = going_on budget old lacked takes.0
takes_lacking pick budget me old taken.Over p new lacked takes = over budget old lacked takes.0
takes_lacking pick budget me old taken.Lacked p new lacked takes = (refl, takes.1)

pub lands_lacking : (budget me : ℕ) (s : Stretch) (old : Running) (answer : PlantLanding) (new : Running) → HasLacked budget old → Lands budget me s old answer new → (answer ≡ landings.Lacked) × (new ≡ old)
lands_lacking budget me s old landings.Landed new lacked lands = going_on budget old lacked lands.0.0
lands_lacking budget me s old (landings.Stale place kept given) new lacked lands = going_on budget old lacked lands.0.0
lands_lacking budget me s old landings.NotOut new lacked lands = going_on budget old lacked lands.0
lands_lacking budget me s old landings.Over new lacked lands = over budget old lacked lands.0
lands_lacking budget me s old landings.Lacked new lacked lands = (refl, lands.1)

pub leaves_lacking : (budget : ℕ) (old : Running) (has_left : Bool) (new : Running) → HasLacked budget old → LeavesOr has_left old new → HasLacked budget new × (new.machine ≡ old.machine)
leaves_lacking budget old true new lacked leaves = (ap (answer_of budget) leaves ∙ lacked, ap (λ (s : Running). s.machine) leaves)
leaves_lacking budget old false new lacked same = (ap (answer_of budget) same ∙ lacked, ap (λ (s : Running). s.machine) same)
