-- Entries of a process that lands, one after another, after each of which it stays out.
use Rattle.std.specs.Prelude.{slice_get, remove}
use Rattle.std.proofs.Common.{◌≡◌, refl, sym, ap, subst, ◌∙◌, ℕ, ◌+◌, ◌-◌, ◌≤◌, ◌<◌, false, List, [], ◌∷◌, ◌++◌, length, replicate, append_assoc, Option, Some, None, arith}
use Rattle.std.proofs.lemmas.List.{length-append, replicate_more}
use Rattle.b67_list.specs.Numbered.{set_numbered}
use Rattle.b67_deeds.specs.declared.Letter.{Letter}
use Rattle.b67_schedule.specs.Schedules.{entries, ScheduleModel}
use Rattle.b67_segment.specs.declared.code.Code.{Code}
use Rattle.b67_table.specs.Sound.{Sound}
use Rattle.b67_action.specs.Able.{one_if}
use Rattle.b67_action.specs.declared.done.Done.TheVariants as dones
use Rattle.b67_machine.specs.declared.entry.Performed.{Performed}
use Rattle.b67_machine.specs.Entries.{EntryPasses, EntriesFollow}
use Rattle.b67_machine.specs.Entries as machine
use Rattle.b67_machine.specs.Kept.{MachineModel}
use Rattle.b67_machine.specs.Reads.{machine_end}
use Rattle.b67_machine.specs.Letters.{AreLetters}
use Rattle.b67_machine.specs.Stepping.{MachinePerforms}
use Rattle.b67_ready.specs.Ready.{counted_on}
use Rattle.b67_stands.specs.Running.{Running, answer_of}
use Rattle.b67_stands.specs.Placing.{holder_of, IsOut}
use Rattle.b67_stands.specs.Stands.{Stands}
use Rattle.b67_stands.specs.Calls.{TakesOne, LetterNoted, done_is_action, ActsOnce, RunsOn}
use Rattle.b67_stands.proofs.Places.{held_able}
use Rattle.b67_stands.proofs.Taking.{number_of, takes_keep}
use Rattle.b67_stands.proofs.Ends.{goes_on}
use Rattle.b67_stands.proofs.Acting.{acts_keep}
use Rattle.b67_stands.proofs.Turns.{set_back, only_joins, goes_by, Grown, some_grown}

-- ---- what a plant that stands does not rest on

-- how many takes there have been, and how its schedule is written as runs
other_books : (code : Code) (budget : ℕ) (x : Running) (s : ScheduleModel) (takes : ℕ) → Stands code budget x → entries s.runs ≡ entries x.schedule.runs → s.letters ≡ x.schedule.letters
    → Stands code budget (record x { schedule = s; takes = takes })
other_books code budget x s takes st same noted = record {
  same = st.same;
  valid = st.valid;
  tails = st.tails;
  image = st.image;
  leads = record {
    run = record {
      history = st.leads.run.history;
      counts = st.leads.run.counts;
      before_tails = st.leads.run.before_tails;
      order = same ∙ st.leads.run.order;
      runs = st.leads.run.runs;
      after = st.leads.run.after;
    };
    valid = st.leads.valid;
  };
  letters = subst (λ (ls : List Letter). AreLetters st.leads.run.runs ls) (sym noted) st.letters;
  shows = st.shows;
  counts = st.counts;
  few = st.few;
  able = st.able;
  spends = st.spends;
  below = st.below;
  within = st.within;
  limit = st.limit;
  lacking = st.lacking;
  placed = st.placed;
  holders = st.holders;
  acts = st.acts ∙ ap (λ (es : List ℕ). length es) (sym same);
  left = st.left;
}

-- ---- the last one of a queue

last_got : (ws : List ℕ) (p : ℕ) → slice_get (ws ++ p ∷ []) (length ws) ≡ Some p
last_got [] p = refl
last_got (w ∷ ws) p = last_got ws p

last_goes : (ws : List ℕ) (p : ℕ) → remove (ws ++ p ∷ []) (length ws) ≡ ws
last_goes [] p = refl
last_goes (w ∷ ws) p = ap (λ (xs : List ℕ). w ∷ xs) (last_goes ws p)

-- ---- one entry more

-- the plant after so many entries and operators
abbrev stayed : Running → ℕ → ℕ → MachineModel → ScheduleModel → Running
stayed old n m machine schedule = record old { machine = machine; schedule = schedule; spent = old.spent + m; acts = old.acts + n }

module _ (code : Code) (budget p : ℕ) (old : Running) (sound : Sound code) (held : IsOut old.out p) (one : 1 ≤ p) (within : p ≤ length old.out) where
  module _ (ls : List Letter) (l : Letter) (m k : ℕ) (b c : MachineModel) (s z : ScheduleModel) (more : EntryPasses b p (budget - old.spent - m) k l c) (grown : Grown old.schedule p ls s)
      (longer : Grown old.schedule p (ls ++ l ∷ []) z) (less : old.spent + (m + (k + 1)) < budget) where
    abbrev before : Running
    before = stayed old (length ls) m b s

    abbrev after : Running
    after = stayed old (length (ls ++ l ∷ [])) (m + (k + 1)) c z

    abbrev performed : Performed
    performed = record { plain = k; done = Some dones.Went }

    -- with the process at the rear of the queue
    abbrev acted : Running
    acted = record after { waiting = old.waiting ++ p ∷ []; out = set_numbered old.out p 0 }

    acts : ActsOnce budget before p performed acted
    acts =
        let left : budget - old.spent - m ≡ budget - (old.spent + m) = omega arith in
        let counted : one_if (done_is_action performed.done) ≡ 1 = refl in
        let next : length (ls ++ l ∷ []) ≡ length ls + 1 = length-append ls (l ∷ []) in
        record {
          machine = subst (λ (most : ℕ). MachinePerforms b p most performed c) left more.performs;
          spent = omega (arith, counted);
          records = record {
            schedule = longer.added ∙ ap (λ (j : ℕ). entries old.schedule.runs ++ replicate j p) next ∙ ap (λ (xs : List ℕ). entries old.schedule.runs ++ xs) (sym (replicate_more (length ls) p))
                ∙ sym (append_assoc (entries old.schedule.runs) (replicate (length ls) p) (p ∷ [])) ∙ ap (λ (xs : List ℕ). xs ++ p ∷ []) (sym grown.added);
            letter = subst (λ (o : Option Letter). LetterNoted s.letters o z.letters) (sym more.letter)
                (longer.letters ∙ sym (append_assoc old.schedule.letters ls (l ∷ [])) ∙ ap (λ (xs : List Letter). xs ++ l ∷ []) (sym grown.letters));
            out = refl;
            waiting = ap (λ (xs : List ℕ). old.waiting ++ xs) (sym (only_joins b.image.started c.image p c.released more.released more.started more.still));
            acts = omega (arith, next);
          };
          takes = refl;
          leaves = refl;
        }

    going : answer_of budget acted ≡ None
    going = goes_by budget acted more.lacked more.ends less

    -- a take of the one at the rear
    abbrev rear : ℕ → ℕ → ℕ
    rear n takes = length old.waiting

    abbrev again : Running
    again = record acted { waiting = remove acted.waiting (length old.waiting); takes = counted_on acted.takes; out = set_numbered acted.out p (holder_of old.out p) }

    takes : TakesOne rear (holder_of old.out p) acted p again
    takes = record { picked = last_got old.waiting p; new_is = refl }

    again_is : record again { takes = old.takes } ≡ after
    again_is =
        ap (λ (ws : List ℕ). record after { waiting = ws; out = set_numbered acted.out p (holder_of old.out p) }) (last_goes old.waiting p)
        ∙ ap (λ (os : List ℕ). record after { out = os }) (set_back old.out p (holder_of old.out p) one within refl)

    stays_after : Stands code budget before → answer_of budget before ≡ None → Stands code budget after
    stays_after stands on =
        let first = acts_keep code budget before acted p performed sound stands on held more.valid acts in
        let then = takes_keep code budget acted first again rear (holder_of old.out p) p going held takes in
        subst (Stands code budget) again_is (other_books code budget again again.schedule old.takes then refl refl)

  stays_on : (all : List Letter) (m : ℕ) (b : MachineModel) (s : ScheduleModel) → EntriesFollow p (budget - old.spent) old.machine all m b → Grown old.schedule p all s → old.spent + m < budget
      → Stands code budget old → answer_of budget old ≡ None → Stands code budget (stayed old (length all) m b s) × (answer_of budget (stayed old (length all) m b s) ≡ None)
  stays_on all m b s machine.stay grown less stands going =
      let spent_is : old.spent + 0 ≡ old.spent = omega arith in
      let acts_is : old.acts + 0 ≡ old.acts = omega arith in
      let same : stayed old 0 0 old.machine s ≡ old =
      ap (λ (x : ScheduleModel). stayed old 0 0 old.machine x) (grown.none refl)
      ∙ ap (λ (n : ℕ). record old { spent = n; acts = old.acts + 0 }) spent_is
      ∙ ap (λ (n : ℕ). record old { acts = n }) acts_is in
      (subst (Stands code budget) (sym same) stands, subst (λ (x : Running). answer_of budget x ≡ None) (sym same) going)
  stays_on all m c z (machine.go {b = b} {ls = ls} {l = l} {m = j} {k = k} enters more) grown less stands going =
      let prior = some_grown old.schedule p ls in
      let on = stays_on ls j b prior.0 enters prior.1 (omega (arith, less)) stands going in (
        stays_after ls l j k b c prior.0 z more prior.1 grown less on.0 on.1,
        goes_by budget (stayed old (length (ls ++ l ∷ [])) (j + (k + 1)) c z) more.lacked more.ends less,
      )

-- ---- a run

module _ (budget : ℕ) (old new : Running) (p : ℕ) (letters : List Letter) (operators : ℕ) (runs : RunsOn budget old p letters operators new) where
  -- the same entries, however they are written
  abbrev written : (z : ScheduleModel) × Grown old.schedule p letters z
  written = some_grown old.schedule p letters

  abbrev stayed_on : Running
  stayed_on = stayed old (length letters) operators new.machine written.0

  new_is : record stayed_on { schedule = new.schedule } ≡ new
  new_is = sym runs.new_is

  pub runs_keep_by : (code : Code) → Sound code → Stands code budget old → answer_of budget old ≡ None → IsOut old.out p → Stands code budget new
  runs_keep_by code sound stands going held =
      let n = number_of code old.machine.image p stands.valid (held_able old.machine.image old.waiting old.out p (stands.placed going) held) in
      let on = stays_on code budget p old sound held n.0 (omega (arith, n.1, stands.holders)) letters operators new.machine written.0 runs.machine written.1 runs.within stands going in
      subst (Stands code budget) new_is
      (other_books code budget stayed_on new.schedule old.takes on.0 (runs.order ∙ sym written.1.added) (runs.noted ∙ sym written.1.letters))

pub runs_keep : (code : Code) (budget : ℕ) (old new : Running) (p : ℕ) (letters : List Letter) (operators : ℕ) → Sound code → Stands code budget old → answer_of budget old ≡ None
    → IsOut old.out p → RunsOn budget old p letters operators new → Stands code budget new
runs_keep code budget old new p letters operators sound stands going held runs = runs_keep_by budget old new p letters operators runs code sound stands going held

-- a machine that goes on does so after entries that go on
enters_go_on : (p most : ℕ) (a b : MachineModel) (ls : List Letter) (m : ℕ) → EntriesFollow p most a ls m b → a.lacked ≡ false → machine_end a ≡ None → (b.lacked ≡ false) × (machine_end b ≡ None)
enters_go_on p most a b ls m machine.stay l e = (l, e)
enters_go_on p most a b ls m (machine.go enters more) l e = (more.lacked, more.ends)

pub runs_go_on : (budget : ℕ) (old new : Running) (p : ℕ) (letters : List Letter) (operators : ℕ) → answer_of budget old ≡ None → RunsOn budget old p letters operators new
    → answer_of budget new ≡ None
runs_go_on budget old new p letters operators going runs =
    let g = goes_on budget old going in
    let on = enters_go_on p (budget - old.spent) old.machine new.machine letters operators runs.machine g.lacked g.end in
    subst (λ (s : Running). answer_of budget s ≡ None) (sym runs.new_is)
    (goes_by budget (record old { machine = new.machine; schedule = new.schedule; spent = old.spent + operators; acts = old.acts + length letters }) on.0 on.1 runs.within)
