-- Turns of one process, one after another: what they keep.
use Rattle.std.specs.Prelude.{nat_le, nat_lt, slice_get, slice_set, remove, if◌then◌else◌}
use Rattle.std.proofs.Common.{◌≡◌, refl, sym, ap, subst, ◌∙◌, ℕ, zero, suc, ◌+◌, ◌-◌, ◌≤◌, ◌<◌, Bool, true, false, List, [], ◌∷◌, ◌++◌, length, Option, Some, None, replicate, append_assoc, arith}
use Rattle.std.proofs.lemmas.Bool.{leb-true}
use Rattle.std.proofs.lemmas.List.{append-nil, length-append, replicate_more}
use Rattle.b67_list.specs.Numbered.{set_numbered}
use Rattle.b67_deeds.specs.declared.Letter.{Letter}
use Rattle.b67_schedule.specs.Schedules.{entries, ScheduleModel}
use Rattle.b67_schedule.proofs.Pushes.{entries_push}
use Rattle.b67_segment.specs.declared.code.Code.{Code}
use Rattle.b67_limits.specs.declared.TheConstants.{MOST_BUDGET}
use Rattle.b67_table.specs.Image.{Image}
use Rattle.b67_table.specs.Sound.{Sound}
use Rattle.b67_action.specs.Able.{one_if, able_in, newly}
use Rattle.b67_action.specs.declared.done.Done.TheVariants as dones
use Rattle.b67_machine.specs.declared.entry.Performed.{Performed}
use Rattle.b67_machine.specs.declared.reads.End.{End}
use Rattle.b67_machine.specs.Entries.{EntryPasses, EntriesFollow}
use Rattle.b67_machine.specs.Entries as machine
use Rattle.b67_machine.specs.Kept.{MachineModel, or_none}
use Rattle.b67_machine.specs.Reads.{machine_end}
use Rattle.b67_machine.specs.Stepping.{MachinePerforms}
use Rattle.b67_ready.specs.Ready.{counted_times}
use Rattle.b67_joining.specs.Joining.{if_able, joining}
use Rattle.b67_stands.specs.Running.{Running, answer_by, answer_of}
use Rattle.b67_stands.specs.Placing.{holder_of}
use Rattle.b67_stands.specs.Picked.{Pick}
use Rattle.b67_stands.specs.Stands.{Stands}
use Rattle.b67_stands.specs.Calls.{TakesOne, LetterNoted, done_is_action}
use Rattle.b67_stands.specs.Turns.{ActsAgain, ActsOn, stay, go, StandsOut, TakenByOne, TurnsKeepOn}
use Rattle.b67_stands.proofs.Places.{holder_own}
use Rattle.b67_stands.proofs.Taking.{taken_number, takes_keep}
use Rattle.b67_stands.proofs.Acting.{acts_keep}
use Rattle.b67_stands.proofs.Alone.{turns_keep_by_one}

-- ---- a take of a plant that stands leaves one that does, and the process is out

module _ (code : Code) (budget : ℕ) (pick : Pick) (old new : Running) (me p : ℕ) (some : 1 ≤ me) (stands : Stands code budget old) (going : answer_of budget old ≡ None)
    (takes : TakesOne pick me old p new) where
  pub going_taken : answer_of budget new ≡ None
  going_taken = subst (λ (s : Running). answer_of budget s ≡ None) (sym takes.new_is) going

  held : holder_of new.out p ≡ me
  held =
      let n = taken_number code budget old stands (pick (length old.waiting) old.takes) p going takes.picked in
      ap (λ (s : Running). holder_of s.out p) takes.new_is ∙ holder_own old.out p me n.0 (omega (arith, n.1, stands.holders))

  pub stands_taken : StandsOut code budget p new
  stands_taken = record { stands = takes_keep code budget old stands new pick me p going some takes; going = going_taken; out = omega (arith, held, some) }

pub stands_on : (code : Code) (budget : ℕ) (pick : Pick) (me p n : ℕ) (old new : Running) → Sound code → 1 ≤ me → StandsOut code budget p old → ActsOn pick budget me p old n new
    → StandsOut code budget p new
stands_on code budget pick me p n old new sound some s stay = s
stands_on code budget pick me p n old new sound some s (go {b = b} {n = k} acts more) =
    let t = stands_on code budget pick me p k old b sound some s acts in
    let acted = acts_keep code budget b more.acted p more.performed sound t.stands t.going t.out more.valid more.acts in
    stands_taken code budget pick more.acted new me p some acted more.going more.takes

by_one_on : (code : Code) (budget : ℕ) (pick : Pick) (me p n : ℕ) (old new : Running) → Sound code → budget ≤ MOST_BUDGET → 1 ≤ me → TakenByOne code budget pick me p old
    → ActsOn pick budget me p old n new → TakenByOne code budget pick me p new
by_one_on code budget pick me p n old new sound small some t stay = t
by_one_on code budget pick me p n old new sound small some t (go {b = b} {n = k} acts more) =
    let u = by_one_on code budget pick me p k old b sound small some t acts in
    let out = stands_taken code budget pick u.before b me p some u.stands u.going u.takes in
    record {
      before = more.acted;
      stands = acts_keep code budget b more.acted p more.performed sound out.stands out.going out.out more.valid more.acts;
      by_one = (turns_keep_by_one.turn code budget pick u.before b more.acted me p more.performed sound small u.stands u.by_one u.going u.takes more.acts).by_one;
      going = more.going;
      takes = more.takes;
    }

pub spent_on : (budget : ℕ) (pick : Pick) (me p n : ℕ) (old new : Running) → ActsOn pick budget me p old n new → old.spent ≤ new.spent
spent_on budget pick me p n old new stay = omega arith
spent_on budget pick me p n old new (go {b = b} {n = k} acts more) =
    let before = spent_on budget pick me p k old b acts in
    let same : new.spent ≡ more.acted.spent = ap (λ (s : Running). s.spent) more.takes.new_is in
    omega (arith, before, more.acts.spent, same)

pub turns_keep_on : TurnsKeepOn
turns_keep_on = record { stands = stands_on; by_one = by_one_on; spent = spent_on }

-- ---- entries that a machine performed one after another are such turns, where nobody waits

set_back_at : (out : List ℕ) (k v : ℕ) → k < length out → or_none (slice_get out k) ≡ v → slice_set (slice_set out k 0) k v ≡ out
set_back_at [] k v h e = absurd (omega (arith, h))
set_back_at (x ∷ out) zero v h e = ap (λ (y : ℕ). y ∷ out) (sym e)
set_back_at (x ∷ out) (suc k) v h e = ap (λ (ys : List ℕ). x ∷ ys) (set_back_at out k v (omega (arith, h)) e)

-- who is out no more, and then again
pub set_back : (out : List ℕ) (p v : ℕ) → 1 ≤ p → p ≤ length out → holder_of out p ≡ v → set_numbered (set_numbered out p 0) p v ≡ out
set_back out zero v one h e = absurd (omega (arith, one))
set_back out (suc k) v one h e = set_back_at out k v (omega (arith, h)) e

nobody_new : (n m : ℕ) (b : Bool) → nat_lt n m ≡ b → m ≡ n → (if b then m ∷ [] else []) ≡ []
nobody_new n m true e s = absurd (omega (arith, s, leb-true (suc n) m e))
nobody_new n m false e s = refl

-- who releases and starts nobody is the only one that joins
pub only_joins : (before : ℕ) (after : Image) (p : ℕ) (released : List ℕ) → released ≡ [] → after.started ≡ before → able_in after p ≡ true → joining before after p released ≡ p ∷ []
only_joins before after p released r s able =
    ap (λ (xs : List ℕ). xs ++ newly before after.started ++ if_able (able_in after p) p) r
    ∙ ap (λ (xs : List ℕ). xs ++ if_able (able_in after p) p) (nobody_new before after.started (nat_lt before after.started) refl s)
    ∙ ap (λ (b : Bool). if_able b p) able

less_is : (n m : ℕ) (b : Bool) → nat_le n m ≡ b → m < n → b ≡ false
less_is n m true e h = absurd (omega (arith, h, leb-true n m e))
less_is n m false e h = refl

pub goes_by : (budget : ℕ) (s : Running) → s.machine.lacked ≡ false → machine_end s.machine ≡ None → s.spent < budget → answer_of budget s ≡ None
goes_by budget s l e h =
    ap (λ (b : Bool). answer_by b (machine_end s.machine) (nat_le budget s.spent)) l
    ∙ ap (λ (o : Option End). answer_by false o (nat_le budget s.spent)) e
    ∙ ap (answer_by false None) (less_is budget s.spent (nat_le budget s.spent) refl h)

-- the plant after so many turns
abbrev pub turned : Running → ℕ → ℕ → MachineModel → ScheduleModel → Running
turned old n m machine schedule = record old {
  machine = machine;
  takes = counted_times n old.takes;
  schedule = schedule;
  spent = old.spent + m;
  acts = old.acts + n;
}

-- some schedule with an entry more for each of these letters
pub record Grown (old : ScheduleModel) (p : ℕ) (ls : List Letter) (new : ScheduleModel) : Type 0 where
  pub added : entries new.runs ≡ entries old.runs ++ replicate (length ls) p
  pub letters : new.letters ≡ old.letters ++ ls
  pub none : ls ≡ [] → new ≡ old

pub some_grown : (old : ScheduleModel) (p : ℕ) (ls : List Letter) → (new : ScheduleModel) × Grown old p ls new
some_grown old p [] = (old, record { added = sym (append-nil (entries old.runs)); letters = sym (append-nil old.letters); none = λ e. refl })
some_grown old p (l ∷ ls) = (
  record { runs = old.runs ++ record { process = p; times = suc (length ls) } ∷ []; letters = old.letters ++ l ∷ ls; room = old.room },
  record { added = entries_push old.runs (record { process = p; times = suc (length ls) }); letters = refl; none = λ e. cc },
)

module _ (budget : ℕ) (pick : Pick) (me p : ℕ) (old : Running) (first : (takes : ℕ) → pick 1 takes ≡ 0) (one : 1 ≤ p) (within : p ≤ length old.out)
    (mine : holder_of old.out p ≡ me) where
  -- one more turn
  once_more : (ls : List Letter) (l : Letter) (m k : ℕ) (b c : MachineModel) (s z : ScheduleModel) → EntryPasses b p (budget - old.spent - m) k l c → Grown old.schedule p ls s
      → Grown old.schedule p (ls ++ l ∷ []) z → old.waiting ≡ [] → m + (k + 1) < budget - old.spent
      → ActsAgain pick budget me p (turned old (length ls) m b s) (turned old (suc (length ls)) (m + (k + 1)) c z)
  once_more ls l m k b c s z more grown longer nobody less =
      let before : Running = turned old (length ls) m b s in
      let after : Running = turned old (suc (length ls)) (m + (k + 1)) c z in
      let performed : Performed = record { plain = k; done = Some dones.Went } in
      let acted : Running = record after { waiting = p ∷ []; takes = before.takes; out = set_numbered old.out p 0 } in
      let left : budget - old.spent - m ≡ budget - (old.spent + m) = omega arith in
      let counted : one_if (done_is_action performed.done) ≡ 1 = refl in
      let next : length (ls ++ l ∷ []) ≡ length ls + 1 = length-append ls (l ∷ []) in
      record {
        performed = performed;
        acted = acted;
        acts = record {
          machine = subst (λ (most : ℕ). MachinePerforms b p most performed c) left more.performs;
          spent = omega (arith, counted);
          records = record {
            schedule = longer.added ∙ ap (λ (j : ℕ). entries old.schedule.runs ++ replicate j p) next ∙ ap (λ (xs : List ℕ). entries old.schedule.runs ++ xs) (sym (replicate_more (length ls) p))
                ∙ sym (append_assoc (entries old.schedule.runs) (replicate (length ls) p) (p ∷ [])) ∙ ap (λ (xs : List ℕ). xs ++ p ∷ []) (sym grown.added);
            letter = subst (λ (o : Option Letter). LetterNoted s.letters o z.letters) (sym more.letter)
                (longer.letters ∙ sym (append_assoc old.schedule.letters ls (l ∷ [])) ∙ ap (λ (xs : List Letter). xs ++ l ∷ []) (sym grown.letters));
            out = refl;
            waiting = sym (only_joins b.image.started c.image p c.released more.released more.started more.still)
                ∙ ap (λ (xs : List ℕ). xs ++ joining b.image.started c.image p c.released) (sym nobody);
            acts = omega arith;
          };
          takes = refl;
          leaves = refl;
        };
        valid = more.valid;
        going = goes_by budget acted more.lacked more.ends (omega (arith, less));
        takes = record {
          picked = ap (slice_get (p ∷ [])) (first before.takes);
          new_is =
              ap (λ (ws : List ℕ). record after { waiting = ws }) (nobody ∙ sym (ap (remove (p ∷ [])) (first before.takes)))
              ∙ ap (λ (os : List ℕ). record after { waiting = remove (p ∷ []) (pick 1 before.takes); out = os }) (sym (set_back old.out p me one within mine));
        };
      }

  pub turns_are : (all : List Letter) (m : ℕ) (b : MachineModel) (s : ScheduleModel) → EntriesFollow p (budget - old.spent) old.machine all m b → Grown old.schedule p all s
      → (1 ≤ length all → old.waiting ≡ []) → (1 ≤ length all → m < budget - old.spent) → ActsOn pick budget me p old (length all) (turned old (length all) m b s)
  turns_are all m b s machine.stay grown nobody less =
      subst (ActsOn pick budget me p old 0) (
      ap (λ (z : ScheduleModel). record old { schedule = z }) (sym (grown.none refl))
      ∙ ap (λ (k : ℕ). record old { schedule = s; spent = k }) (omega arith)
      ∙ ap (λ (k : ℕ). record old { schedule = s; spent = old.spent + 0; acts = k }) (omega arith)
      ) stay
  turns_are all m c z (machine.go {b = b} {ls = ls} {l = l} {m = j} {k = k} enters more) grown nobody less =
      let next : suc (length ls) ≡ length (ls ++ l ∷ []) = omega (arith, length-append ls (l ∷ [])) in
      let none = nobody (omega (arith, next)) in
      let before = some_grown old.schedule p ls in
      let small : j + (k + 1) < budget - old.spent = less (omega (arith, next)) in
      subst (λ (x : ℕ). ActsOn pick budget me p old x (turned old x (j + (k + 1)) c z)) next (
      go (turns_are ls j b before.0 enters before.1 (λ h. none) (λ h. omega (arith, small)))
      (once_more ls l j k b c before.0 z more before.1 grown none small)
      )
