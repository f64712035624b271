-- The turns of one processor.
use Rattle.std.specs.Prelude.{reverse, slice_get, remove, nat_le, nat_lt, if◌then◌else◌}
use Rattle.std.proofs.Common.{◌≡◌, ◌≢◌, refl, sym, ap, subst, ◌∙◌, true≢false, ℕ, ◌+◌, ◌-◌, ◌≤◌, ◌<◌, Bool, true, false, List, [], ◌∷◌, ◌++◌, length, Option, Some, None, arith}
use Rattle.std.proofs.Math.Decide.{ℕ_discrete}
use Rattle.std.proofs.lemmas.Bool.{leb-true}
use Rattle.std.proofs.lemmas.List.{reverse-append, length-reverse}
use Rattle.b67_list.specs.Numbered.{numbered, set_numbered}
use Rattle.b67_num.specs.declared.FaultKind.{FaultKind}
use Rattle.b67_schedule.specs.Schedules.{entries, ScheduleModel}
use Rattle.b67_segment.specs.declared.code.Code.{Code}
use Rattle.b67_limits.specs.declared.TheConstants.{MOST_BUDGET}
use Rattle.b67_letters.specs.Releases.{registers_releases, released_by, releases, started_between, started_by, operator_starts}
use Rattle.b67_table.specs.declared.ProcessState.{ProcessState}
use Rattle.b67_table.specs.Ending.{ImageEnd, image_end, may_act, failed}
use Rattle.b67_table.specs.Ending as ending
use Rattle.b67_table.specs.Image.{Image, is_able}
use Rattle.b67_table.specs.Limits.{most_processes}
use Rattle.b67_table.specs.Outcome.{Outcome, gives, faults, interrupts}
use Rattle.b67_table.specs.Runs.{Runs, begin, entry, RunEntry, Plains, TableRun, acts, fails}
use Rattle.b67_table.specs.Runs as runs
use Rattle.b67_table.specs.Sound.{Sound}
use Rattle.b67_table.specs.Table.{table, plain}
use Rattle.b67_table.proofs.Cited.{history_within, may_by}
use Rattle.b67_table.proofs.Withdrawing.{length_set}
use Rattle.b67_action.specs.Able.{one_if, able_in, newly}
use Rattle.b67_action.specs.declared.done.Done.{Done}
use Rattle.b67_action.specs.declared.done.Done.TheVariants as dones
use Rattle.b67_machine.specs.declared.entry.Performed.{Performed}
use Rattle.b67_machine.specs.Kept.{MachineModel}
use Rattle.b67_machine.specs.Replaying.{tails_of}
use Rattle.b67_machine.specs.Stepping.{MachineActs, StepsBy, MachineFollows, MachineGoes}
use Rattle.b67_machine.proofs.Ends.{same_end}
use Rattle.b67_machine.proofs.Ends as machine
use Rattle.b67_machine.proofs.Tailing.{tail_of_next}
use Rattle.b67_ready.specs.Ready.{most_takes, counted_on}
use Rattle.b67_joining.specs.Joining.{if_able, joining}
use Rattle.b67_stands.specs.Running.{Running, answer_of}
use Rattle.b67_stands.specs.Placing.{holder_of}
use Rattle.b67_stands.specs.Picked.{Pick, if_started, to_rear, waiting_after}
use Rattle.b67_stands.specs.Stands.{Stands}
use Rattle.b67_stands.specs.Calls.{IsFirst, TakesOne, done_is_action, Records, ActsOnce}
use Rattle.b67_stands.specs.Alone.{IsNext, ByOne, KeepsByOne, TurnsKeepByOne}
use Rattle.b67_stands.proofs.Firsts.{none_out}
use Rattle.b67_stands.proofs.Places.{got_times, waiting_able, holder_own, holder_other}
use Rattle.b67_stands.proofs.Taking.{number_of}
use Rattle.b67_stands.proofs.Ends.{GoesOn, goes_on, budget_ends, limit_ends, lack_ends}
use Rattle.b67_stands.proofs.Idle.{some_out}

-- ---- at first

pub first_by_one : (code : Code) (budget : ℕ) (pick : Pick) (s : Running) → IsFirst code s → ByOne code budget pick s
first_by_one code budget pick s first = record {
  history = [];
  counts = [];
  image = s.machine.image;
  runs = subst (Runs code [] []) (sym first.fresh.image) begin;
  order = ap entries first.schedule;
  picked = tt;
  next = λ e. record {
    shows = refl;
    waiting = first.waiting;
    takes = first.takes;
    nobody = λ p. ap (λ (out : List ℕ). holder_of out p) first.out ∙ none_out most_processes p;
  };
  within = omega (arith, first.spent);
}

-- ---- takes are counted

counted_below : (n : ℕ) (b : Bool) → nat_le most_takes n ≡ b → n < most_takes → (if b then n else n + 1) ≡ n + 1
counted_below n true e h = absurd (omega (arith, leb-true most_takes n e, h))
counted_below n false e h = refl

-- ---- who goes to the rear

newly_is : (b : Bool) (n : ℕ) → (if b then n ∷ [] else []) ≡ if_started (if b then Some n else None)
newly_is true n = refl
newly_is false n = refl

may_able : (img : Image) (p : ℕ) → image_end img ≡ None → may_act img p ≡ able_in img p
unfolding may_act
may_able img p e = ap (λ (o : Option ImageEnd). ending.goes_on o (is_able (numbered img.states p))) e

rear_is : (code : Code) (a quiet b : Image) (p : ℕ) (released : List ℕ) → a.started ≡ quiet.started → released ≡ releases code quiet p
    → started_between quiet.started b.started ≡ operator_starts code quiet p → image_end b ≡ None → joining a.started b p released ≡ to_rear code quiet p b
rear_is code a quiet b p released n r s e =
    ap (λ (xs : List ℕ). xs ++ newly a.started b.started ++ if_able (able_in b p) p) r
    ∙ ap (λ (k : ℕ). releases code quiet p ++ newly k b.started ++ if_able (able_in b p) p) n
    ∙ ap (λ (xs : List ℕ). releases code quiet p ++ xs ++ if_able (able_in b p) p) (newly_is (nat_lt quiet.started b.started) b.started ∙ ap if_started s)
    ∙ ap (λ (may : Bool). releases code quiet p ++ if_started (operator_starts code quiet p) ++ (if may then p ∷ [] else [])) (sym (may_able b p e))

-- what is at fault releases and starts nobody
faults_release : (code : Code) (img : Image) (p : ℕ) (kind : FaultKind) → table code img p ≡ faults kind → releases code img p ≡ []
faults_release code img p kind e = ap (λ (o : Outcome Image). released_by o (registers_releases code img p (numbered img.regs p))) e

faults_start : (code : Code) (img : Image) (p : ℕ) (kind : FaultKind) → table code img p ≡ faults kind → operator_starts code img p ≡ None
faults_start code img p kind e = ap (started_by img) e

-- ---- a turn

abbrev taken : Running → ℕ → ℕ → ℕ → Running
taken old k p me = record old { waiting = remove old.waiting k; takes = counted_on old.takes; out = set_numbered old.out p me }

module _ (code : Code) (budget : ℕ) (pick : Pick) (old new : Running) (me p : ℕ) (performed : Performed) (sound : Sound code) (small : budget ≤ MOST_BUDGET)
    (stands : Stands code budget old) (one : ByOne code budget pick old) (going : answer_of budget old ≡ None)
    (got : slice_get old.waiting (pick (length old.waiting) old.takes) ≡ Some p)
    (turn : ActsOnce budget (taken old (pick (length old.waiting) old.takes) p me) p performed new) where
  abbrev quiet : MachineModel
  quiet = turn.machine.between

  g : GoesOn budget old
  g = goes_on budget old going

  next : IsNext pick one.runs old
  next = one.next going

  goes : MachineGoes old.machine p performed.plain quiet
  goes = turn.machine.plains

  able : able_in old.machine.image p ≡ true
  able = waiting_able old.machine.image old.waiting old.out p (stands.placed going) (got_times old.waiting (pick (length old.waiting) old.takes) p got)

  number : (1 ≤ p) × (p ≤ most_processes)
  number = number_of code old.machine.image p stands.valid able

  least : 1 ≤ p
  least = number.0

  -- who was out is so no more
  nobody_out : (q : ℕ) → holder_of (set_numbered (set_numbered old.out p me) p 0) q ≡ 0
  nobody_out q = by (ℕ_discrete q p)
    where
      by : Dec (q ≡ p) → holder_of (set_numbered (set_numbered old.out p me) p 0) q ≡ 0
      by (yes e) =
          ap (holder_of (set_numbered (set_numbered old.out p me) p 0)) e
          ∙ holder_own (set_numbered old.out p me) p 0 number.0 (omega (arith, number.1, length_set old.out p me, stands.holders))
      by (no h) = holder_other (set_numbered old.out p me) p q 0 h ∙ holder_other old.out p q me h ∙ next.nobody q

  code_quiet : quiet.code ≡ code
  code_quiet = ap (λ (k : MachineModel). k.code) goes.others ∙ stands.same

  lacked_quiet : quiet.lacked ≡ false
  lacked_quiet = ap (λ (k : MachineModel). k.lacked) goes.others ∙ g.lacked

  end_quiet : image_end quiet.image ≡ None
  end_quiet = same_end old.machine.image quiet.image goes.states goes.fault ∙ (machine.goes_on old.machine g.end).end

  able_quiet : able_in quiet.image p ≡ true
  able_quiet = ap (λ (ss : List ProcessState). is_able (numbered ss p)) goes.states ∙ able

  may_first : may_act one.image p ≡ true
  may_first = subst (λ (i : Image). may_act i p ≡ true) next.shows (may_by old.machine.image p (machine.goes_on old.machine g.end).end able)

  plains : Plains code p one.image performed.plain quiet.image
  plains =
      subst (λ (i : Image). Plains code p i performed.plain quiet.image) next.shows
      (subst (λ (c : Code). Plains c p old.machine.image performed.plain quiet.image) stands.same goes.performed)

  run_quiet : TableRun code (reverse one.history) (tails_of (p ∷ []) performed.plain) quiet.image
  run_quiet = record {
    history = one.history;
    counts = one.counts;
    before_tails = one.image;
    order = refl;
    runs = one.runs;
    after = tail_of_next code p performed.plain [] one.image quiet.image least plains;
  }

  -- fewer entries than takes can be counted
  few : length one.history < most_takes
  few =
      let r = stands.leads.run in
      let limit : MOST_BUDGET ≡ 4194304 = refl in
      omega (
        arith,
        ap length one.order,
        length-reverse one.history,
        ap length r.order,
        length-reverse r.history,
        history_within code r.history r.counts r.before_tails r.runs,
        stands.spends,
        g.less,
        small,
        limit,
      )

  takes_are : new.takes ≡ length one.history + 1
  takes_are =
      turn.takes ∙ ap counted_on next.takes ∙ counted_below (length one.history) (nat_le most_takes (length one.history)) refl few

  place_is : pick (length old.waiting) old.takes ≡ pick (length (waiting_after pick one.runs)) (length one.history)
  place_is = ap (λ (xs : List ℕ). pick (length xs) old.takes) next.waiting ∙ ap (pick (length (waiting_after pick one.runs))) next.takes

  picked_there : slice_get (waiting_after pick one.runs) (pick (length (waiting_after pick one.runs)) (length one.history)) ≡ Some p
  picked_there =
      subst (λ (xs : List ℕ). slice_get xs (pick (length (waiting_after pick one.runs)) (length one.history)) ≡ Some p) next.waiting
      (subst (λ (k : ℕ). slice_get old.waiting k ≡ Some p) place_is got)

  others_are : remove old.waiting (pick (length old.waiting) old.takes)
      ≡ remove (waiting_after pick one.runs) (pick (length (waiting_after pick one.runs)) (length one.history))
  others_are = ap (remove old.waiting) place_is ∙ ap (λ (xs : List ℕ). remove xs (pick (length (waiting_after pick one.runs)) (length one.history))) next.waiting

  -- no action was performed
  stays : Records false (taken old (pick (length old.waiting) old.takes) p me) p new → answer_of budget new ≢ None → new.spent ≤ budget → ByOne code budget pick new
  stays s ended within = record {
    history = one.history;
    counts = one.counts;
    image = one.image;
    runs = one.runs;
    order = ap (λ (z : ScheduleModel). entries z.runs) s.schedule ∙ one.order;
    picked = one.picked;
    next = λ e. absurd (ended e);
    within = within;
  }

  -- the action was performed
  enters : Records true (taken old (pick (length old.waiting) old.takes) p me) p new → runs.ProcessActs code p quiet.image new.machine.image
      → new.machine.released ≡ releases code quiet.image p → started_between quiet.image.started new.machine.image.started ≡ operator_starts code quiet.image p → new.spent ≤ budget
      → ByOne code budget pick new
  enters e act released started within =
      let last : RunEntry code p one.image performed.plain new.machine.image =
      record { may = may_first; quiet = quiet.image; plains = plains; action = act } in
      record {
        history = p ∷ one.history;
        counts = (performed.plain + 1) ∷ one.counts;
        image = new.machine.image;
        runs = entry one.runs last;
        order = e.schedule ∙ ap (λ (xs : List ℕ). xs ++ p ∷ []) one.order ∙ sym (reverse-append (p ∷ []) one.history);
        picked = (one.picked, picked_there);
        next = λ h.
            let none = (machine.goes_on new.machine (goes_on budget new h).end).end in
            record {
              shows = refl;
              waiting = e.waiting
                  ∙ ap (λ (xs : List ℕ). xs ++ joining old.machine.image.started new.machine.image p new.machine.released) others_are
                  ∙ ap (λ (xs : List ℕ). remove (waiting_after pick one.runs) (pick (length (waiting_after pick one.runs)) (length one.history)) ++ xs)
                  (rear_is code old.machine.image quiet.image new.machine.image p new.machine.released (sym goes.started) released started none);
              takes = omega (arith, takes_are);
              nobody = λ q. ap (λ (out : List ℕ). holder_of out q) e.out ∙ nobody_out q;
            };
        within = within;
      }

  acts_by : (acted : Image) → plain quiet.code quiet.image p ≡ false → table quiet.code quiet.image p ≡ gives acted → new.machine.image ≡ acted
      → runs.ProcessActs code p quiet.image new.machine.image
  acts_by acted e t same =
      subst (λ (c : Code). runs.ProcessActs c p quiet.image new.machine.image) code_quiet
      (subst (λ (i : Image). runs.ProcessActs quiet.code p quiet.image i) (sym same) (acts e t))

  fails_by : (kind : FaultKind) (acted : Image) → table quiet.code quiet.image p ≡ faults kind → acted ≡ quiet.image → new.machine.image ≡ failed acted p kind
      → runs.ProcessActs code p quiet.image new.machine.image
  fails_by kind acted t left same =
      subst (λ (c : Code). runs.ProcessActs c p quiet.image new.machine.image) code_quiet
      (subst (λ (i : Image). runs.ProcessActs quiet.code p quiet.image i) (sym (same ∙ ap (λ (i : Image). failed i p kind) left)) (fails kind t))

  released_by_it : new.machine.released ≡ releases quiet.code quiet.image p → new.machine.released ≡ releases code quiet.image p
  released_by_it e = e ∙ ap (λ (c : Code). releases c quiet.image p) code_quiet

  started_by_it : started_between quiet.image.started new.machine.image.started ≡ operator_starts quiet.code quiet.image p
      → started_between quiet.image.started new.machine.image.started ≡ operator_starts code quiet.image p
  started_by_it e = e ∙ ap (λ (c : Code). operator_starts c quiet.image p) code_quiet

  turn_by : (o : Option Done) → MachineFollows quiet p performed.plain (budget - old.spent) o new.machine
      → Records (done_is_action o) (taken old (pick (length old.waiting) old.takes) p me) p new → new.spent ≡ old.spent + performed.plain + one_if (done_is_action o)
      → ByOne code budget pick new × (done_is_action o ≡ false → answer_of budget new ≢ None)
  unfolding failed
  turn_by None f rec spent =
      let ended = budget_ends budget new (omega (arith, spent, f.0, g.less)) in
      (stays rec ended (omega (arith, spent, f.0, g.less)), λ e. ended)
  turn_by (Some dones.StackLimit) f rec spent =
      let a : MachineActs quiet p dones.StackLimit new.machine = subst (λ (b : Bool). StepsBy b quiet p dones.StackLimit new.machine) lacked_quiet f.2 in
      let ended = limit_ends budget p new a.limit in
      (stays rec ended (omega (arith, spent, f.0)), λ e. ended)
  turn_by (Some dones.NoMemory) f rec spent =
      let a : MachineActs quiet p dones.NoMemory new.machine = subst (λ (b : Bool). StepsBy b quiet p dones.NoMemory new.machine) lacked_quiet f.2 in
      let ended = lack_ends budget new a.lacked in
      (stays rec ended (omega (arith, spent, f.0)), λ e. ended)
  turn_by (Some (dones.Interrupt kind)) f rec spent =
      let a : MachineActs quiet p (dones.Interrupt kind) new.machine = subst (λ (b : Bool). StepsBy b quiet p (dones.Interrupt kind) new.machine) lacked_quiet f.2 in
      absurd (sound.tagged (reverse one.history) (tails_of (p ∷ []) performed.plain) quiet.image run_quiet end_quiet p able_quiet
      (kind, subst (λ (c : Code). table c quiet.image p ≡ interrupts kind) code_quiet a.came.0))
  turn_by (Some dones.Went) f rec spent =
      let a : MachineActs quiet p dones.Went new.machine = subst (λ (b : Bool). StepsBy b quiet p dones.Went new.machine) lacked_quiet f.2 in (
        enters rec (acts_by a.acted f.1 a.came.0 a.image) (released_by_it a.released) (started_by_it a.started) (omega (arith, spent, f.0)),
        λ e. absurd (true≢false e),
      )
  turn_by (Some dones.Waits) f rec spent =
      let a : MachineActs quiet p dones.Waits new.machine = subst (λ (b : Bool). StepsBy b quiet p dones.Waits new.machine) lacked_quiet f.2 in (
        enters rec (acts_by a.acted f.1 a.came.0 a.image) (released_by_it a.released) (started_by_it a.started) (omega (arith, spent, f.0)),
        λ e. absurd (true≢false e),
      )
  turn_by (Some dones.Ended) f rec spent =
      let a : MachineActs quiet p dones.Ended new.machine = subst (λ (b : Bool). StepsBy b quiet p dones.Ended new.machine) lacked_quiet f.2 in (
        enters rec (acts_by a.acted f.1 a.came.0 a.image) (released_by_it a.released) (started_by_it a.started) (omega (arith, spent, f.0)),
        λ e. absurd (true≢false e),
      )
  turn_by (Some (dones.Fault kind)) f rec spent =
      let a : MachineActs quiet p (dones.Fault kind) new.machine = subst (λ (b : Bool). StepsBy b quiet p (dones.Fault kind) new.machine) lacked_quiet f.2 in (
        enters rec (fails_by kind a.acted a.came.0 a.came.1 a.image)
            (released_by_it (a.released ∙ sym (faults_release quiet.code quiet.image p kind a.came.0)))
            (started_by_it (a.started ∙ sym (faults_start quiet.code quiet.image p kind a.came.0))) (omega (arith, spent, f.0)),
        λ e. absurd (true≢false e),
      )

  pub turned : KeepsByOne code budget pick performed new
  turned = let k = turn_by performed.done turn.machine.then turn.records turn.spent in record { by_one = k.0; ended = k.1 }

turn_keeps : (code : Code) (budget : ℕ) (pick : Pick) (old between new : Running) (me p : ℕ) (performed : Performed) → Sound code → budget ≤ MOST_BUDGET
    → Stands code budget old → ByOne code budget pick old → answer_of budget old ≡ None → TakesOne pick me old p between → ActsOnce budget between p performed new
    → KeepsByOne code budget pick performed new
turn_keeps code budget pick old between new me p performed sound small stands one going takes once =
    turned code budget pick old new me p performed sound small stands one going takes.picked
    (subst (λ (s : Running). ActsOnce budget s p performed new) takes.new_is once)

some_wait : (code : Code) (budget : ℕ) (pick : Pick) (s : Running) → Stands code budget s → ByOne code budget pick s → answer_of budget s ≡ None → s.waiting ≢ []
some_wait code budget pick s stands one going none =
    let out = some_out code budget s stands going none in omega (arith, out.1, (one.next going).nobody out.0)

pub turns_keep_by_one : TurnsKeepByOne
turns_keep_by_one = record { first = first_by_one; turn = turn_keeps; some = some_wait }
