-- A run by turns, turn by turn.
use Rattle.std.proofs.Common.{◌≡◌, refl, sym, ap, subst, ◌∙◌, ℕ, zero, suc, ◌+◌, ◌≤◌, ◌<◌, false, List, [], ◌∷◌, length, Option, Some, None, arith}
use Rattle.std.proofs.Math.Decide.{ℕ_discrete}
use Rattle.b67_segment.specs.declared.code.Code.{Code}
use Rattle.b67_table.specs.Ending.{ImageEnd, finished, faulted, all_waiting, image_end}
use Rattle.b67_table.specs.Image.{Image}
use Rattle.b67_action.specs.Able.{number_times}
use Rattle.b67_machine.specs.declared.reads.End.{End}
use Rattle.b67_machine.specs.Beginning.{IsFresh}
use Rattle.b67_machine.specs.Kept.{MachineModel, Counts, operators_counted}
use Rattle.b67_machine.specs.Reads.{end_shown, limit_end, machine_end_by, machine_end}
use Rattle.b67_machine.proofs.Ends.{goes_on}
use Rattle.b67_joining.specs.Joining.{IsQueue}
use Rattle.b67_joining.proofs.Times.{here, elsewhere, times_most}
use Rattle.b67_joining.proofs.Joining.{first_queue}
use Rattle.b67_exec.specs.declared.Stopped.{Stopped}
use Rattle.b67_exec.specs.declared.Stopped.TheVariants as stopped
use Rattle.b67_exec.specs.Exec.{FrontStops, FrontMakes, IsCause, CountsAre, ExecRun, ExecLacks, stop_of, told_stopped}
use Rattle.b67_exec.specs.Turns.{Turns, goes, stops, exec_turn, turn_by, turn_in, turn_unless, stopped_by, ran, spent_unless, go_on, exec_from, exec_run, first_turns}
use Rattle.b67_exec.specs.Turning.{IsListed, turns_at, TurnGoes, TurnStops, TurnLacks}
use Rattle.b67_exec.proofs.Queues.{listed_first}

-- ---- the definition

ends_here : (code : Code) (n : ℕ) (t : Turns) (end : ImageEnd) → image_end t.image ≡ Some end → exec_from code n t ≡ ran t (stopped_by end)
ends_here code zero t end e = ap (λ (o : Option ImageEnd). ran t (spent_unless o)) e
ends_here code (suc n) t end e = ap (λ (o : Option ImageEnd). go_on (λ (new : Turns). exec_from code n new) t (turn_unless code t o)) e

spent_here : (code : Code) (t : Turns) → image_end t.image ≡ None → exec_from code 0 t ≡ ran t stopped.BudgetSpent
spent_here code t e = ap (λ (o : Option ImageEnd). ran t (spent_unless o)) e

goes_here : (code : Code) (n : ℕ) (t new : Turns) → exec_turn code t ≡ goes new → exec_from code (suc n) t ≡ exec_from code n new
goes_here code n t new e = ap (go_on (λ (x : Turns). exec_from code n x) t) e

stops_here : (code : Code) (n : ℕ) (t : Turns) (why : Stopped) → exec_turn code t ≡ stops why → exec_from code (suc n) t ≡ ran t why
stops_here code n t why e = ap (go_on (λ (x : Turns). exec_from code n x) t) e

-- a turn stops where the operator of the process at the front does
front_stops : (code : Code) (t : Turns) (p : ℕ) (others : List ℕ) (why : Stopped) → t.queue ≡ p ∷ others → image_end t.image ≡ None
    → FrontStops code t.image (p ∷ others) why → exec_turn code t ≡ stops why
front_stops code t p others (stopped.Interrupt kind q) queue going s =
    ap (turn_unless code t) going ∙ ap (turn_in code t) queue ∙ ap (turn_by code t p others) s.1
    ∙ ap (λ (n : ℕ). stops (stopped.Interrupt kind n)) (sym s.0)
front_stops code t p others (stopped.StackLimit q words) queue going s =
    ap (turn_unless code t) going ∙ ap (turn_in code t) queue ∙ ap (turn_by code t p others) s.2
    ∙ ap (λ (n : ℕ). stops (stopped.StackLimit p n)) (sym s.1) ∙ ap (λ (n : ℕ). stops (stopped.StackLimit n words)) (sym s.0)
front_stops code t p others stopped.Finished queue going s = absurd s
front_stops code t p others (stopped.Fault kind q) queue going s = absurd s
front_stops code t p others stopped.AllWaiting queue going s = absurd s
front_stops code t p others stopped.BudgetSpent queue going s = absurd s

turn_stops : (code : Code) (t : Turns) (queue : List ℕ) (why : Stopped) → t.queue ≡ queue → image_end t.image ≡ None → FrontStops code t.image queue why
    → exec_turn code t ≡ stops why
turn_stops code t [] why q going s = absurd s
turn_stops code t (p ∷ others) why q going s = front_stops code t p others why q going s

-- ---- the end of a machine

shown_so : (end : ImageEnd) → stop_of (end_shown end) ≡ stopped_by end
shown_so finished = refl
shown_so (faulted kind p) = refl
shown_so all_waiting = refl

no_answer : (why : Stopped) → None ≡ Some why → ⊥
no_answer why e = cc

ended_by : (m : MachineModel) (o : Option ImageEnd) (why : Stopped) → m.limit ≡ None → told_stopped (machine_end_by o m) ≡ Some why
    → (end : ImageEnd) × (o ≡ Some end) × (why ≡ stopped_by end)
ended_by m (Some end) why limit e =
    let same : stop_of (end_shown end) ≡ why = cc in (end, refl, sym same ∙ shown_so end)
ended_by m None why limit e = absurd (no_answer why (sym (ap (λ (o : Option ℕ). told_stopped (limit_end o m.image.regs)) limit) ∙ e))

pub told_none : (o : Option End) → told_stopped o ≡ None → o ≡ None
told_none None e = refl
told_none (Some end) e = cc

cause_of : (code : Code) (budget : ℕ) (t : Turns) (end : ImageEnd) → image_end t.image ≡ Some end → IsCause code budget t (stopped_by end)
cause_of code budget t finished e = e
cause_of code budget t (faulted kind p) e = e
cause_of code budget t all_waiting e = e

stop_cause : (code : Code) (budget : ℕ) (t : Turns) (queue : List ℕ) (why : Stopped) → t.queue ≡ queue → image_end t.image ≡ None → length t.done < budget
    → FrontStops code t.image queue why → IsCause code budget t why
stop_cause code budget t [] why q going less s = absurd s
stop_cause code budget t (p ∷ others) (stopped.Interrupt kind n) q going less s =
    (going, less, subst (λ (xs : List ℕ). FrontStops code t.image xs (stopped.Interrupt kind n)) (sym q) s)
stop_cause code budget t (p ∷ others) (stopped.StackLimit n words) q going less s =
    (going, less, subst (λ (xs : List ℕ). FrontStops code t.image xs (stopped.StackLimit n words)) (sym q) s)
stop_cause code budget t (p ∷ others) stopped.Finished q going less s = absurd s
stop_cause code budget t (p ∷ others) (stopped.Fault kind n) q going less s = absurd s
stop_cause code budget t (p ∷ others) stopped.AllWaiting q going less s = absurd s
stop_cause code budget t (p ∷ others) stopped.BudgetSpent q going less s = absurd s

-- ---- where the loop stands

-- the run stands here, with so many operators left of its budget
pub record Stands (code : Code) (budget left : ℕ) (m : MachineModel) (queue : List ℕ) : Type 0 where
  pub done : List ℕ
  pub spends : length done + left ≡ budget
  pub leads : (n : ℕ) → exec_from code (length done + n) first_turns ≡ exec_from code n (turns_at m queue done)
  pub counts : CountsAre m.counts done
  pub is_queue : IsQueue m.image queue
  pub listed : IsListed m.image
  pub limit : m.limit ≡ None
  pub lacked : m.lacked ≡ false
  pub same : m.code ≡ code

pub begins : (m : MachineModel) (budget : ℕ) (queue : List ℕ) → IsFresh m → queue ≡ 1 ∷ [] → Stands m.code budget budget m queue
begins m budget queue fresh e =
    subst (Stands m.code budget budget m) (sym e) (record {
      done = [];
      spends = omega arith;
      leads = λ n.
          let none : 0 + n ≡ n = omega arith in
          ap (λ (k : ℕ). exec_from m.code k first_turns) none
          ∙ ap (λ (i : Image). exec_from m.code n (record { image = i; queue = 1 ∷ []; done = [] })) (sym fresh.image);
      counts = fresh.counts;
      is_queue = first_queue m.image fresh.image;
      listed = listed_first m.image fresh.image;
      limit = fresh.limit;
      lacked = fresh.lacked;
      same = refl;
    })

counts_more : (before after done : List ℕ) (p : ℕ) → Counts before p 1 after → CountsAre before done → CountsAre after (p ∷ done)
counts_more before after done p c are q = by (ℕ_discrete q p)
  where
    by : Dec (q ≡ p) → operators_counted after q ≡ number_times q (p ∷ done)
    by (yes e) =
        let own = here p p refl in
        let same : operators_counted after p ≡ number_times p (p ∷ done) = omega (arith, c.own, are p, own) in
        subst (λ (n : ℕ). operators_counted after n ≡ number_times n (p ∷ done)) (sym e) same
    by (no h) = let none = elsewhere q p h in omega (arith, c.others q h, are q, none)

module _ (code : Code) (budget left : ℕ) (m : MachineModel) (queue : List ℕ) (s : Stands code budget left m queue) where
  abbrev pub here_now : Turns
  here_now = turns_at m queue s.done

  run_is : exec_run code budget ≡ exec_from code left here_now
  unfolding exec_run
  run_is = ap (λ (n : ℕ). exec_from code n first_turns) (sym s.spends) ∙ s.leads left

  stopped_so : (why : Stopped) → exec_from code left here_now ≡ ran here_now why → IsCause code budget here_now why → ExecRun code budget m why
  stopped_so why e cause = record { turns = here_now; runs = run_is ∙ e; cause = cause; image = refl; counts = s.counts; same = s.same }

  -- the run has an end
  pub ends : (why : Stopped) → told_stopped (machine_end m) ≡ Some why → ExecRun code budget m why
  ends why e =
      let k = ended_by m (image_end m.image) why s.limit e in
      subst (ExecRun code budget m) (sym k.2)
      (stopped_so (stopped_by k.0) (ends_here code left here_now k.0 k.1) (cause_of code budget here_now k.0 k.1))

  -- or as many operators as were allowed
  pub spent : machine_end m ≡ None → left ≡ 0 → ExecRun code budget m stopped.BudgetSpent
  spent going none =
      let on = (goes_on m going).end in
      stopped_so stopped.BudgetSpent (ap (λ (n : ℕ). exec_from code n here_now) none ∙ spent_here code here_now on)
      (on, omega (arith, s.spends, none))

  module _ (going : machine_end m ≡ None) (new : MachineModel) (next : List ℕ) where
    on : image_end m.image ≡ None
    on = (goes_on m going).end

    -- the next operator stops it
    pub stops_there : (k : ℕ) → left ≡ suc k → (why : Stopped) → TurnStops m queue why new → ExecRun code budget new why
    stops_there k some why t = record {
      turns = here_now;
      runs =
          run_is ∙ ap (λ (n : ℕ). exec_from code n here_now) some
          ∙ stops_here code k here_now why
          (subst (λ (c : Code). exec_turn c here_now ≡ stops why) s.same (turn_stops m.code here_now queue why refl on t.stops));
      cause =
          subst (λ (c : Code). IsCause c budget here_now why) s.same
          (stop_cause m.code budget here_now queue why refl on (omega (arith, s.spends, some)) t.stops);
      image = t.image;
      counts = λ p. t.counts p ∙ s.counts p;
      same = t.same ∙ s.same;
    }

    performed_is : exec_run code (length s.done) ≡ ran here_now stopped.BudgetSpent
    unfolding exec_run
    performed_is =
        let none : length s.done ≡ length s.done + 0 = omega arith in
        ap (λ (n : ℕ). exec_from code n first_turns) none ∙ s.leads 0 ∙ spent_here code here_now on

    -- there is no memory for what it makes
    pub lacks_there : (k : ℕ) → left ≡ suc k → TurnLacks m queue new → ExecLacks code budget new
    lacks_there k some t = record {
      performed = length s.done;
      below = omega (arith, s.spends, some);
      turns = here_now;
      runs = performed_is;
      makes = subst (λ (c : Code). FrontMakes c m.image queue) s.same t.makes;
      image = t.image;
      counts = λ p. t.counts p ∙ s.counts p;
      lacked = t.lacked;
      same = t.same ∙ s.same;
    }

    -- it goes on
    pub goes_there : (k : ℕ) → left ≡ suc k → TurnGoes m queue new next → Stands code budget k new next
    goes_there k some t = record {
      done = t.front ∷ s.done;
      spends = omega (arith, s.spends, some);
      leads = λ n.
          let more : length (t.front ∷ s.done) + n ≡ length s.done + suc n = omega arith in
          ap (λ (j : ℕ). exec_from code j first_turns) more ∙ s.leads (suc n)
          ∙ goes_here code n here_now (turns_at new next (t.front ∷ s.done))
          (subst (λ (c : Code). exec_turn c here_now ≡ goes (turns_at new next (t.front ∷ s.done))) s.same (t.turns s.done));
      counts = counts_more m.counts new.counts s.done t.front t.counts s.counts;
      is_queue = t.is_queue;
      listed = t.listed;
      limit = t.limit;
      lacked = t.lacked;
      same = t.same ∙ s.same;
    }

  -- the counts have room
  pub counts_small : (p : ℕ) → operators_counted m.counts p ≤ budget
  counts_small p = omega (arith, s.counts p, times_most p s.done, s.spends)
