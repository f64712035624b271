-- A plant stands after an act.
use Rattle.std.specs.Prelude.{sum, map, reverse}
use Rattle.std.proofs.Common.{◌≡◌, ◌≢◌, refl, sym, ap, subst, ◌∙◌, true≢false, ℕ, zero, suc, ◌+◌, ◌-◌, ◌≤◌, ◌<◌, Bool, true, false, List, [], ◌∷◌, ◌++◌, length, length-append, Option, Some, None, arith}
use Rattle.std.proofs.lemmas.List.{reverse-append}
use Rattle.std.proofs.lemmas.List.Sums.{sum_by-cons}
use Rattle.b67_list.specs.Numbered.{numbered}
use Rattle.b67_num.specs.declared.FaultKind.{FaultKind}
use Rattle.b67_schedule.specs.Schedules.{entries, ScheduleModel}
use Rattle.b67_segment.specs.declared.code.Code.{Code}
use Rattle.b67_table.specs.declared.ProcessState.{ProcessState}
use Rattle.b67_table.specs.Image.{Image, is_able, is_live}
use Rattle.b67_table.specs.Ending.{image_end, may_act, failed}
use Rattle.b67_table.specs.Outcome.{gives, faults, interrupts, limit}
use Rattle.b67_table.specs.Runs.{Plains, count_of, acts, fails}
use Rattle.b67_table.specs.Runs as runs
use Rattle.b67_table.specs.Sound.{Sound}
use Rattle.b67_table.specs.Table.{table, plain}
use Rattle.b67_table.specs.Valid.{IsValid}
use Rattle.b67_table.proofs.Cited.{may_by}
use Rattle.b67_table.proofs.Waking.{able_live}
use Rattle.b67_table.proofs.Withdrawing.{length_set}
use Rattle.b67_deeds.specs.declared.Letter.{Letter}
use Rattle.b67_letters.specs.Entries.{letters}
use Rattle.b67_letters.specs.Letters.{letter}
use Rattle.b67_letters.proofs.Lettered.{actions_have_letters}
use Rattle.b67_intrinsics.specs.Called.{ImageIsLeft}
use Rattle.b67_action.specs.Able.{one_if, able_in, AbleAfter}
use Rattle.b67_action.specs.declared.done.Done.{Done}
use Rattle.b67_action.specs.declared.done.Done.TheVariants as dones
use Rattle.b67_machine.specs.declared.entry.Performed.{Performed}
use Rattle.b67_machine.specs.Kept.{MachineModel, Counts, operators_counted}
use Rattle.b67_machine.specs.Letters.{or_before, lettered}
use Rattle.b67_machine.specs.Replaying.{MachineStands}
use Rattle.b67_machine.specs.Stepping.{MachineActs, StepsBy, MachineFollows, MachineGoes, operators_in, limit_of, lacks}
use Rattle.b67_machine.proofs.Ends.{same_end}
use Rattle.b67_machine.proofs.Ends as machine
use Rattle.b67_machine.proofs.Chains.{counts_then}
use Rattle.b67_machine.proofs.Enabling.{able_from}
use Rattle.b67_joining.specs.Joining.{joining}
use Rattle.b67_stands.specs.Tails.{with_more, tails_without, tail_of}
use Rattle.b67_stands.specs.Going.{LeadsOn}
use Rattle.b67_stands.proofs.Steps.{Same, number_from, number_within}
use Rattle.b67_stands.proofs.Past.{plains_same}
use Rattle.b67_stands.proofs.Advancing.{runs_take_operators, runs_take_entries}
use Rattle.b67_stands.specs.Running.{Running, answer_of}
use Rattle.b67_stands.specs.Placing.{IsOut, ProcessesPlaced}
use Rattle.b67_stands.specs.Stands.{Stands, AtLimit}
use Rattle.b67_stands.specs.Calls.{LetterNoted, done_is_action, PlantEnters, Records, ActsOnce}
use Rattle.b67_stands.proofs.Tails.{sum_more, length_more, sum_without, length_without}
use Rattle.b67_stands.proofs.Counts.{counts_more, counts_entry, no_counts, count_same}
use Rattle.b67_stands.proofs.Places.{placed_acted, held_able, able_more, able_without}
use Rattle.b67_stands.proofs.Ends.{GoesOn, goes_on, budget_ends, limit_ends, lack_ends}
use Rattle.b67_stands.proofs.Showing.{shows_is, shows_by, shows_left}

by_zero : (k : ℕ) → (k ≢ 0 → ⊥) → k ≡ 0
by_zero zero h = refl
by_zero (suc k) h = absurd (h (λ e. omega (arith, e)))

-- one letter more, of the newest entry
letter_more : (l : Letter) (here : Option Letter) (before after : List Letter) (newest : List (Option Letter)) → here ≡ Some l → LetterNoted before (Some l) after
    → newest ≡ map Some (reverse before) → here ∷ newest ≡ map Some (reverse after)
letter_more l here before after newest is noted are =
    ap (λ (o : Option Letter). o ∷ newest) is ∙ ap (λ (os : List (Option Letter)). Some l ∷ os) are
    ∙ sym (ap (λ (ls : List Letter). map Some (reverse ls)) noted ∙ ap (λ (ls : List Letter). map Some ls) (reverse-append before (l ∷ [])))

-- what is given of an act
pub record Given (code : Code) (budget : ℕ) (old : Running) (p : ℕ) (performed : Performed) (new : Running) : Type 0 where
  pub sound : Sound code
  pub stands : Stands code budget old
  pub going : answer_of budget old ≡ None
  pub held : IsOut old.out p
  pub valid : IsValid new.machine.code new.machine.image
  pub acts : ActsOnce budget old p performed new

module _ (code : Code) (budget : ℕ) (old : Running) (p : ℕ) (performed : Performed) (new : Running) (x : Given code budget old p performed new) where
  abbrev between : MachineModel
  between = x.acts.machine.between

  g : GoesOn budget old
  g = goes_on budget old x.going

  goes : MachineGoes old.machine p performed.plain between
  goes = x.acts.machine.plains

  able : is_able (numbered old.machine.image.states p) ≡ true
  able = held_able old.machine.image old.waiting old.out p (x.stands.placed x.going) x.held

  shown : old.machine.image ≡ x.stands.image
  shown = shows_is old.machine.lacked x.stands.image old.machine.image g.lacked x.stands.shows

  live : is_live (numbered old.machine.image.states p) ≡ true
  live = able_live (numbered old.machine.image.states p) able

  least : 1 ≤ p
  least = number_from old.machine.image p live

  most : p ≤ old.machine.image.started
  most = number_within code old.machine.image p x.stands.valid live

  within_out : p ≤ length old.out
  within_out = omega (arith, most, x.stands.valid.most, x.stands.holders)

  most_there : p ≤ x.stands.image.started
  most_there = subst (λ (i : Image). p ≤ i.started) shown most

  plains : Plains code p x.stands.image performed.plain between.image
  plains =
      subst (λ (i : Image). Plains code p i performed.plain between.image) shown
      (subst (λ (c : Code). Plains c p old.machine.image performed.plain between.image) x.stands.same goes.performed)

  code_between : between.code ≡ code
  code_between = ap (λ (k : MachineModel). k.code) goes.others ∙ x.stands.same

  lacked_between : between.lacked ≡ false
  lacked_between = ap (λ (k : MachineModel). k.lacked) goes.others ∙ g.lacked

  limit_between : between.limit ≡ None
  limit_between = ap (λ (k : MachineModel). k.limit) goes.others ∙ g.limit

  end_between : image_end between.image ≡ None
  end_between = same_end old.machine.image between.image goes.states goes.fault ∙ (machine.goes_on old.machine g.end).end

  able_between : is_able (numbered between.image.states p) ≡ true
  able_between = ap (λ (ss : List ProcessState). is_able (numbered ss p)) goes.states ∙ able

  may_between : may_act between.image p ≡ true
  may_between = may_by between.image p end_between able_between

  may_there : may_act x.stands.image p ≡ true
  may_there = subst (λ (i : Image). may_act i p ≡ true) shown (may_by old.machine.image p (machine.goes_on old.machine g.end).end able)

  valid_there : IsValid code x.stands.image
  valid_there = subst (λ (i : Image). IsValid code i) shown x.stands.valid

  kept : Same code x.stands.image between.image
  kept = plains_same code p x.stands.image between.image performed.plain valid_there plains

  able_there : able_in x.stands.image p ≡ true
  able_there = subst (λ (i : Image). able_in i p ≡ true) shown able

  started_same : between.image.started ≡ x.stands.image.started
  started_same = kept.started

  started_old : between.image.started ≡ old.machine.image.started
  started_old = kept.started ∙ ap (λ (i : Image). i.started) (sym shown)

  grown : LeadsOn code (entries old.schedule.runs) x.stands.tails x.stands.image x.stands.leads p performed.plain between.image
  grown =
      runs_take_operators code (entries old.schedule.runs) x.stands.tails x.stands.image between.image p performed.plain x.stands.leads
      (subst (λ (i : Image). is_live (numbered i.states p) ≡ true) shown live) plains

  none_left : old.leaves ≡ 0
  none_left = by_zero old.leaves (λ h. x.stands.left h x.going)

  -- no action was performed
  stays : Records false old p new → MachineStands new.machine.lacked between.image new.machine.image → Counts between.counts p 0 new.machine.counts
      → new.machine.code ≡ code → old.spent + performed.plain ≤ budget → new.spent ≡ old.spent + performed.plain
      → ((q : ℕ) → new.machine.limit ≡ Some q → AtLimit code between.image q × (new.spent < budget))
      → (new.machine.lacked ≡ true → (image_end between.image ≡ None) × (new.spent < budget) × (new.machine.limit ≡ None))
      → answer_of budget new ≢ None → Stands code budget new
  stays s shows counts same within spent limit' lacking ended =
      let r = x.stands.leads.run in
      let on = grown.on.run in
      record {
        same = same;
        valid = subst (λ (c : Code). IsValid c new.machine.image) same x.valid;
        tails = with_more x.stands.tails p performed.plain;
        image = between.image;
        leads = record {
          run = record {
            history = on.history;
            counts = on.counts;
            before_tails = on.before_tails;
            order = ap (λ (z : ScheduleModel). entries z.runs) s.schedule ∙ on.order;
            runs = on.runs;
            after = on.after;
          };
          valid = grown.on.valid;
        };
        letters = grown.same.letters ∙ x.stands.letters ∙ ap (λ (z : ScheduleModel). map Some (reverse z.letters)) (sym s.schedule);
        shows = shows;
        few = length_more x.stands.tails p performed.plain between.image.started (omega (arith, x.stands.few, started_same)) (omega (arith, most_there, started_same));
        able = able_more x.stands.image between.image x.stands.tails p x.stands.able performed.plain kept.states able_there;
        counts = λ q.
            counts_more old.machine.counts new.machine.counts x.stands.tails (λ k. count_of k r.history r.counts) p performed.plain least
            (no_counts old.machine.counts between.counts new.machine.counts p performed.plain goes.counts counts) x.stands.counts q
            ∙ ap (λ (k : ℕ). k + tail_of (with_more x.stands.tails p performed.plain) q)
            (sym (count_same q on.history r.history on.counts r.counts grown.same.history grown.same.counts));
        spends = omega (arith, spent, x.stands.spends, sum_more x.stands.tails p performed.plain least, ap sum grown.same.counts);
        below = omega (arith, spent, within);
        within = λ h. absurd (h end_between);
        limit = limit';
        lacking = lacking;
        placed = λ e. absurd (ended e);
        holders = ap length s.out ∙ x.stands.holders;
        acts = s.acts ∙ x.stands.acts ∙ ap (λ (z : ScheduleModel). length (entries z.runs)) (sym s.schedule);
        left = λ h. ended;
      }

  placed_after : PlantEnters old p new → AbleAfter between.image new.machine.image p new.machine.released → ProcessesPlaced new.machine.image new.waiting new.out
  placed_after e after =
      let from = able_from old.machine.image between.image new.machine.image p new.machine.released goes.states started_old after in
      let then = placed_acted old.machine.image new.machine.image old.waiting old.out new.machine.released p (x.stands.placed x.going) least within_out x.held from in
      subst (λ (ws : List ℕ). ProcessesPlaced new.machine.image ws new.out) (sym e.waiting)
      (subst (λ (os : List ℕ). ProcessesPlaced new.machine.image (old.waiting ++ joining old.machine.image.started new.machine.image p new.machine.released) os) (sym e.out) then)

  -- its letter is the action's, and stands after the others
  with_letter : (done : Done) → MachineActs between p done new.machine → operators_in done ≡ 1 → runs.ProcessActs code p between.image new.machine.image
      → LetterNoted old.schedule.letters new.machine.letter new.schedule.letters
      → letter code between.image p ∷ letters x.stands.leads.run.runs ≡ map Some (reverse new.schedule.letters)
  with_letter done a one act noted =
      let has = actions_have_letters.acts code between.image new.machine.image p act in
      let kept : new.machine.letter ≡ Some has.0 =
      a.letter_is ∙ ap (λ (c : Code). lettered (operators_in done) (letter c between.image p) between.letter) code_between
      ∙ ap (λ (n : ℕ). lettered n (letter code between.image p) between.letter) one ∙ ap (λ (o : Option Letter). or_before o between.letter) has.1 in
      letter_more has.0 (letter code between.image p) old.schedule.letters new.schedule.letters (letters x.stands.leads.run.runs) has.1
      (subst (λ (o : Option Letter). LetterNoted old.schedule.letters o new.schedule.letters) kept noted) x.stands.letters

  -- the action was performed
  enters : (done : Done) → Records true old p new → MachineActs between p done new.machine → runs.ProcessActs code p between.image new.machine.image
      → operators_in done ≡ 1 → limit_of p done ≡ None → lacks done ≡ false → old.spent + performed.plain + 1 ≤ budget
      → new.spent ≡ old.spent + performed.plain + 1 → new.leaves ≡ old.leaves → Stands code budget new
  enters done e a act one none lack within spent leaves =
      let r = x.stands.leads.run in
      let same : new.machine.code ≡ code = a.code ∙ code_between in
      let valid : IsValid code new.machine.image = subst (λ (c : Code). IsValid c new.machine.image) same x.valid in
      let t = runs_take_entries code (entries old.schedule.runs) x.stands.tails x.stands.image between.image new.machine.image p performed.plain x.stands.leads x.sound
      may_there plains act valid in
      let to = t.to.run in
      let after = a.able one in
      let counts : Counts between.counts p 1 new.machine.counts =
      subst (λ (k : ℕ). Counts between.counts p k new.machine.counts) one a.counts in
      record {
        same = same;
        valid = valid;
        tails = tails_without x.stands.tails p;
        image = new.machine.image;
        leads = record {
          run = record {
            history = to.history;
            counts = to.counts;
            before_tails = to.before_tails;
            order = e.schedule ∙ to.order;
            runs = to.runs;
            after = to.after;
          };
          valid = t.to.valid;
        };
        letters = t.more.letters ∙ with_letter done a one act e.letter;
        shows = shows_by new.machine.lacked new.machine.image new.machine.image (a.lacked ∙ lack) refl;
        few = omega (arith, length_without x.stands.tails p, x.stands.few, started_same, after.grows);
        able = able_without x.stands.image new.machine.image x.stands.tails p x.stands.able new.machine.released
            (able_from x.stands.image between.image new.machine.image p new.machine.released kept.states started_same after);
        counts = λ q.
            counts_entry old.machine.counts new.machine.counts x.stands.tails r.history r.counts p performed.plain
            (counts_then old.machine.counts between.counts new.machine.counts p performed.plain 1 goes.counts counts) x.stands.counts q
            ∙ ap (λ (k : ℕ). k + tail_of (tails_without x.stands.tails p) q)
            (sym (count_same q to.history (p ∷ r.history) to.counts ((tail_of x.stands.tails p + performed.plain + 1) ∷ r.counts) t.more.history t.more.counts));
        spends = omega (
          arith,
          spent,
          x.stands.spends,
          sum_without x.stands.tails p,
          ap sum t.more.counts,
          sum_by-cons (λ (k : ℕ). k) (tail_of x.stands.tails p + performed.plain + 1) r.counts,
        );
        below = omega (arith, spent, within);
        within = λ h. omega (arith, spent, within);
        limit = λ q h. let no : None ≡ Some q = sym (a.limit ∙ none) ∙ h in cc;
        lacking = λ h. absurd (true≢false (sym h ∙ a.lacked ∙ lack));
        placed = λ h. placed_after e after;
        holders = ap length e.out ∙ length_set old.out p 0 ∙ x.stands.holders;
        acts = omega (arith, e.acts, x.stands.acts, ap length e.schedule, length-append (entries old.schedule.runs) (p ∷ []));
        left = λ h. absurd (h (leaves ∙ none_left));
      }

  -- the same machine, and as many operators
  none_more : (m : MachineModel) → m ≡ between → Counts between.counts p 0 m.counts
  none_more m e = record {
    own = let same = ap (λ (k : MachineModel). operators_counted k.counts p) e in omega (arith, same);
    others = λ q h. ap (λ (k : MachineModel). operators_counted k.counts q) e;
  }

  acts_by : (d : Done) → MachineActs between p d new.machine → (acted : Image) → plain between.code between.image p ≡ false
      → table between.code between.image p ≡ gives acted → new.machine.image ≡ acted → runs.ProcessActs code p between.image new.machine.image
  acts_by d a acted e t same =
      subst (λ (c : Code). runs.ProcessActs c p between.image new.machine.image) code_between
      (subst (λ (i : Image). runs.ProcessActs between.code p between.image i) (sym same) (acts e t))

  fails_by : (kind : FaultKind) (acted : Image) → table between.code between.image p ≡ faults kind → acted ≡ between.image
      → new.machine.image ≡ failed acted p kind → runs.ProcessActs code p between.image new.machine.image
  fails_by kind acted t left same =
      subst (λ (c : Code). runs.ProcessActs c p between.image new.machine.image) code_between
      (subst (λ (i : Image). runs.ProcessActs between.code p between.image i) (sym (same ∙ ap (λ (i : Image). failed i p kind) left)) (fails kind t))

  at_limit : (a : MachineActs between p dones.StackLimit new.machine) → (q : ℕ) → new.machine.limit ≡ Some q → AtLimit code between.image q
  at_limit a q h =
      let same : p ≡ q = let both : Some p ≡ Some q = sym a.limit ∙ h in cc in
      subst (AtLimit code between.image) same
      (record { next = subst (λ (c : Code). table c between.image p ≡ limit) code_between a.came.0; may = may_between })

  after_by : (o : Option Done) → MachineFollows between p performed.plain (budget - old.spent) o new.machine → Records (done_is_action o) old p new
      → new.spent ≡ old.spent + performed.plain + one_if (done_is_action o) → new.leaves ≡ old.leaves → Stands code budget new
  unfolding failed
  after_by None f rec spent leaves =
      let ended = budget_ends budget new (omega (arith, spent, f.0, g.less)) in
      stays rec (shows_by new.machine.lacked between.image new.machine.image (ap (λ (k : MachineModel). k.lacked) f.1 ∙ lacked_between) (ap (λ (k : MachineModel). k.image) f.1))
      (none_more new.machine f.1) (ap (λ (k : MachineModel). k.code) f.1 ∙ code_between) (omega (arith, f.0, g.less)) (omega (arith, spent))
      (λ q h. let no : None ≡ Some q = sym (ap (λ (k : MachineModel). k.limit) f.1 ∙ limit_between) ∙ h in cc)
      (λ h. absurd (true≢false (sym h ∙ ap (λ (k : MachineModel). k.lacked) f.1 ∙ lacked_between))) ended
  after_by (Some dones.StackLimit) f rec spent leaves =
      let a : MachineActs between p dones.StackLimit new.machine = subst (λ (b : Bool). StepsBy b between p dones.StackLimit new.machine) lacked_between f.2 in
      stays rec (shows_by new.machine.lacked between.image new.machine.image a.lacked (a.image ∙ a.came.1)) a.counts (a.code ∙ code_between)
      (omega (arith, f.0)) (omega (arith, spent)) (λ q h. (at_limit a q h, omega (arith, spent, f.0))) (λ h. absurd (true≢false (sym h ∙ a.lacked)))
      (limit_ends budget p new a.limit)
  after_by (Some dones.NoMemory) f rec spent leaves =
      let a : MachineActs between p dones.NoMemory new.machine = subst (λ (b : Bool). StepsBy b between p dones.NoMemory new.machine) lacked_between f.2 in
      stays rec (shows_left new.machine.lacked between.image new.machine.image a.lacked (subst (ImageIsLeft between.image) (sym a.image) a.came.1)) a.counts
      (a.code ∙ code_between) (omega (arith, f.0)) (omega (arith, spent)) (λ q h. let no : None ≡ Some q = sym a.limit ∙ h in cc)
      (λ h. (end_between, omega (arith, spent, f.0), a.limit)) (lack_ends budget new a.lacked)
  after_by (Some (dones.Interrupt kind)) f rec spent leaves =
      let a : MachineActs between p (dones.Interrupt kind) new.machine =
      subst (λ (b : Bool). StepsBy b between p (dones.Interrupt kind) new.machine) lacked_between f.2 in
      absurd (x.sound.tagged (entries old.schedule.runs) (with_more x.stands.tails p performed.plain) between.image grown.on.run end_between p able_between
      (kind, subst (λ (c : Code). table c between.image p ≡ interrupts kind) code_between a.came.0))
  after_by (Some dones.Went) f rec spent leaves =
      let a : MachineActs between p dones.Went new.machine = subst (λ (b : Bool). StepsBy b between p dones.Went new.machine) lacked_between f.2 in
      enters dones.Went rec a (acts_by dones.Went a a.acted f.1 a.came.0 a.image) refl refl refl (omega (arith, f.0)) spent leaves
  after_by (Some dones.Waits) f rec spent leaves =
      let a : MachineActs between p dones.Waits new.machine = subst (λ (b : Bool). StepsBy b between p dones.Waits new.machine) lacked_between f.2 in
      enters dones.Waits rec a (acts_by dones.Waits a a.acted f.1 a.came.0 a.image) refl refl refl (omega (arith, f.0)) spent leaves
  after_by (Some dones.Ended) f rec spent leaves =
      let a : MachineActs between p dones.Ended new.machine = subst (λ (b : Bool). StepsBy b between p dones.Ended new.machine) lacked_between f.2 in
      enters dones.Ended rec a (acts_by dones.Ended a a.acted f.1 a.came.0 a.image) refl refl refl (omega (arith, f.0)) spent leaves
  after_by (Some (dones.Fault kind)) f rec spent leaves =
      let a : MachineActs between p (dones.Fault kind) new.machine =
      subst (λ (b : Bool). StepsBy b between p (dones.Fault kind) new.machine) lacked_between f.2 in
      enters (dones.Fault kind) rec a (fails_by kind a.acted a.came.0 a.came.1 a.image) refl refl refl (omega (arith, f.0)) spent leaves

  -- so it stands
  pub stands_after : Stands code budget new
  stands_after = after_by performed.done x.acts.machine.then x.acts.records x.acts.spent x.acts.leaves

  placed_by : (o : Option Done) → MachineFollows between p performed.plain (budget - old.spent) o new.machine → Records (done_is_action o) old p new → done_is_action o ≡ true
      → ProcessesPlaced new.machine.image new.waiting new.out
  placed_by None f rec e = cc
  placed_by (Some dones.Went) f rec e = placed_after rec ((subst (λ (b : Bool). StepsBy b between p dones.Went new.machine) lacked_between f.2).able refl)
  placed_by (Some dones.Waits) f rec e = placed_after rec ((subst (λ (b : Bool). StepsBy b between p dones.Waits new.machine) lacked_between f.2).able refl)
  placed_by (Some dones.Ended) f rec e = placed_after rec ((subst (λ (b : Bool). StepsBy b between p dones.Ended new.machine) lacked_between f.2).able refl)
  placed_by (Some (dones.Fault kind)) f rec e =
      placed_after rec ((subst (λ (b : Bool). StepsBy b between p (dones.Fault kind) new.machine) lacked_between f.2).able refl)
  placed_by (Some (dones.Interrupt kind)) f rec e = cc
  placed_by (Some dones.StackLimit) f rec e = cc
  placed_by (Some dones.NoMemory) f rec e = cc

  -- where everyone is after an action, also where it ended the run
  pub placed_then : done_is_action performed.done ≡ true → ProcessesPlaced new.machine.image new.waiting new.out
  placed_then e = placed_by performed.done x.acts.machine.then x.acts.records e

pub acts_keep : (code : Code) (budget : ℕ) (old new : Running) (p : ℕ) (performed : Performed) → Sound code → Stands code budget old → answer_of budget old ≡ None
    → IsOut old.out p → IsValid new.machine.code new.machine.image → ActsOnce budget old p performed new → Stands code budget new
acts_keep code budget old new p performed sound stands going held valid once =
    stands_after code budget old p performed new (record { sound = sound; stands = stands; going = going; held = held; valid = valid; acts = once })
