-- What is given of an act, and its numbers.
use Rattle.std.specs.Prelude.{slice_set}
use Rattle.std.proofs.Common.{◌≡◌, refl, sym, ap, subst, ◌∙◌, ℕ, ◌+◌, ◌-◌, ◌≤◌, Bool, true, List, [], ◌∷◌, ◌++◌, length, length-append, reverse, Option, Some, None, arith}
use Rattle.std.proofs.lemmas.List.{length-map, length-reverse}
use Rattle.b67_deeds.specs.declared.Letter.{Letter}
use Rattle.b67_letters.specs.Entries.{letters}
use Rattle.b67_list.specs.Numbered.{set_numbered}
use Rattle.b67_schedule.specs.Schedules.{entries, ScheduleModel}
use Rattle.b67_segment.specs.declared.code.Code.{Code}
use Rattle.b67_limits.specs.declared.TheConstants.{MOST_BUDGET}
use Rattle.b67_table.specs.Limits.{most_processes}
use Rattle.b67_table.specs.Sound.{Sound}
use Rattle.b67_table.specs.Valid.{IsValid}
use Rattle.b67_table.proofs.Cited.{history_within}
use Rattle.b67_machine.specs.declared.entry.Performed.{Performed}
use Rattle.b67_machine.specs.Kept.{MachineModel, operators_counted}
use Rattle.b67_machine.specs.Stepping.{MachinePerforms}
use Rattle.b67_machine.proofs.Agreeing.{letters_long}
use Rattle.b67_machine.proofs.Entering.{count_most}
use Rattle.b67_stands.specs.Running.{Running, answer_of}
use Rattle.b67_action.specs.Able.{one_if}
use Rattle.b67_joining.specs.Joining.{joining}
use Rattle.b67_joining.proofs.Joining.{released_few}
use Rattle.b67_stands.specs.Placing.{holder_of}
use Rattle.b67_stands.specs.Stands.{Stands}
use Rattle.b67_stands.specs.Calls.{done_is_action, LetterNoted, Records, ActsOnce}
use Rattle.b67_stands.proofs.Tails.{tail_most}
use Rattle.b67_stands.proofs.Places.{held_able}
use Rattle.b67_stands.proofs.Taking.{number_of, waiting_few}
use Rattle.b67_stands.proofs.Acting.{Given, placed_then}
use Rattle.b67_plant.proofs.Handing.{set_is}

-- ---- numbers

pub budget_is : MOST_BUDGET ≡ 4194304
budget_is = refl

pub entries_spent : (code : Code) (budget : ℕ) (old : Running) → Stands code budget old → length (entries old.schedule.runs) ≤ old.spent
entries_spent code budget old s =
    let r = s.leads.run in
    omega (arith, ap length r.order, length-reverse r.history, history_within code r.history r.counts r.before_tails r.runs, s.spends)

-- a letter for each entry
pub letters_entries : (code : Code) (budget : ℕ) (old : Running) → Stands code budget old → length old.schedule.letters ≡ length (entries old.schedule.runs)
letters_entries code budget old s =
    let r = s.leads.run in
    let each : length (letters r.runs) ≡ length (reverse old.schedule.letters) =
    ap length s.letters ∙ length-map {A = Letter} {B = Option Letter} (reverse old.schedule.letters) Some in
    omega (arith, letters_long r.runs, each, length-reverse old.schedule.letters, ap length r.order, length-reverse r.history)

pub counted_spent : (code : Code) (budget : ℕ) (old : Running) (p : ℕ) → Stands code budget old → operators_counted old.machine.counts p ≤ old.spent + old.spent
counted_spent code budget old p s =
    let r = s.leads.run in
    omega (arith, s.counts p, count_most p r.history r.counts, tail_most s.tails p, s.spends)

-- ---- who is out

pub held_number : (code : Code) (budget : ℕ) (old : Running) (p : ℕ) → Stands code budget old → answer_of budget old ≡ None → 1 ≤ holder_of old.out p
    → (1 ≤ p) × (p ≤ most_processes)
held_number code budget old p s going h =
    number_of code old.machine.image p s.valid (held_able old.machine.image old.waiting old.out p (s.placed going) h)

-- ---- an act

pub once : (budget : ℕ) (old : Running) (p : ℕ) (performed : Performed) (new : Running) (b : ℕ) → b ≡ budget → MachinePerforms old.machine p (b - old.spent) performed new.machine
    → (x : Bool) → done_is_action performed.done ≡ x → new.spent ≡ old.spent + performed.plain + one_if x → Records x old p new → new.takes ≡ old.takes → new.leaves ≡ old.leaves
    → ActsOnce budget old p performed new
once budget old p performed new b e k x f spent records takes leaves = record {
  machine = subst (λ (n : ℕ). MachinePerforms old.machine p (n - old.spent) performed new.machine) e k;
  spent = spent ∙ ap (λ (y : Bool). old.spent + performed.plain + one_if y) (sym f);
  records = subst (λ (y : Bool). Records y old p new) (sym f) records;
  takes = takes;
  leaves = leaves;
}

pub given : (code : Code) (budget : ℕ) (old : Running) (p : ℕ) (performed : Performed) (new : Running) → Sound code → Stands code budget old → answer_of budget old ≡ None
    → 1 ≤ holder_of old.out p → IsValid new.machine.code new.machine.image → ActsOnce budget old p performed new → Given code budget old p performed new
given code budget old p performed new sound stands going held valid acts =
    record { sound = sound; stands = stands; going = going; held = held; valid = valid; acts = acts }

-- the queue after the action, as it was filled
pub queue_is : (old : Running) (m : MachineModel) (p before : ℕ) (waiting : List ℕ) → before ≡ old.machine.image.started
    → waiting ≡ old.waiting ++ joining before m.image p m.released → waiting ≡ old.waiting ++ joining old.machine.image.started m.image p m.released
queue_is old m p before waiting e f = f ∙ ap (λ (k : ℕ). old.waiting ++ joining k m.image p m.released) e

-- the plant after an action
abbrev pub entered : Running → ℕ → Performed → MachineModel → ScheduleModel → ℕ → Running
entered old p performed m schedule acts = record old {
  machine = m;
  waiting = old.waiting ++ joining old.machine.image.started m.image p m.released;
  out = set_numbered old.out p 0;
  schedule = schedule;
  spent = old.spent + performed.plain + 1;
  acts = acts;
}

pub entered_once : (budget : ℕ) (old : Running) (p : ℕ) (performed : Performed) (m : MachineModel) (schedule : ScheduleModel) (acts b : ℕ) → b ≡ budget
    → MachinePerforms old.machine p (b - old.spent) performed m → done_is_action performed.done ≡ true → entries schedule.runs ≡ entries old.schedule.runs ++ p ∷ []
    → LetterNoted old.schedule.letters m.letter schedule.letters → acts ≡ old.acts + 1 → ActsOnce budget old p performed (entered old p performed m schedule acts)
entered_once budget old p performed m schedule acts b e k f added noted counted' =
    once budget old p performed (entered old p performed m schedule acts) b e k true f refl (record { schedule = added; letter = noted; out = refl; waiting = refl; acts = counted' }) refl refl

-- and as its fields were written
pub entered_is : (old : Running) (p : ℕ) (performed : Performed) (m : MachineModel) (schedule : ScheduleModel) (acts before takes leaves : ℕ) (waiting out : List ℕ) → 1 ≤ p
    → before ≡ old.machine.image.started → waiting ≡ old.waiting ++ joining before m.image p m.released
    → out ≡ slice_set old.out (p - 1) 0 → takes ≡ old.takes → leaves ≡ old.leaves
    → record {
      machine = m;
      waiting = waiting;
      takes = takes;
      out = out;
      schedule = schedule;
      spent = old.spent + performed.plain + 1;
      acts = acts;
      leaves = leaves;
    } ≡ entered old p performed m schedule acts
entered_is old p performed m schedule acts before takes leaves waiting out one e w o t l =
    ap (λ (x : List ℕ). record (entered old p performed m schedule acts) { waiting = x; out = out; takes = takes; leaves = leaves }) (queue_is old m p before waiting e w)
    ∙ ap (λ (x : List ℕ). record (entered old p performed m schedule acts) { out = x; takes = takes; leaves = leaves }) (o ∙ set_is old.out p 0 one)
    ∙ ap (λ (x : ℕ). record (entered old p performed m schedule acts) { takes = x; leaves = leaves }) t
    ∙ ap (λ (x : ℕ). record (entered old p performed m schedule acts) { leaves = x }) l

-- there is room in the queue
pub queue_fits : (code : Code) (budget : ℕ) (old : Running) (p : ℕ) (performed : Performed) (m : MachineModel) (schedule : ScheduleModel) (acts : ℕ)
    → Given code budget old p performed (entered old p performed m schedule acts) → done_is_action performed.done ≡ true → length old.waiting + length m.released ≤ most_processes
queue_fits code budget old p performed m schedule acts x e =
    let new : Running = entered old p performed m schedule acts in
    let few = waiting_few m.code m.image new.waiting new.out x.valid (placed_then code budget old p performed new x e) in
    omega (
      arith,
      few,
      length-append old.waiting (joining old.machine.image.started m.image p m.released),
      released_few old.machine.image.started m.image p m.released,
    )
