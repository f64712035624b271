-- The next entry of a replay, once it is performed.
use Rattle.std.specs.Prelude.{sum, nat_eq, if◌then◌else◌, IfSome}
use Rattle.std.proofs.Common.{◌≡◌, ◌≢◌, refl, sym, ap, subst, ◌∙◌, inl, inr, true≢false, ℕ, zero, suc, ◌+◌, ◌-◌, ◌≤◌, ◌<◌, Bool, true, false, List, [], ◌∷◌, ◌++◌, length, map, Option, Some, None, append_assoc, arith}
use Rattle.std.proofs.lemmas.Bool.{eqb-true, eq-eqb}
use Rattle.std.proofs.lemmas.List.{reverse-append, length-reverse}
use Rattle.std.proofs.lemmas.List.Sums.{sum_by-cons}
use Rattle.b67_list.specs.Numbered.{numbered}
use Rattle.b67_deeds.specs.declared.Letter.{Letter}
use Rattle.b67_letters.specs.Entries.{letters}
use Rattle.b67_letters.specs.Letters.{letter}
use Rattle.b67_letters.proofs.Lettered.{actions_have_letters}
use Rattle.b67_num.specs.declared.FaultKind.{FaultKind}
use Rattle.b67_segment.specs.declared.code.Code.{Code}
use Rattle.b67_table.specs.declared.ProcessState.{ProcessState}
use Rattle.b67_table.specs.declared.ProcessState.TheVariants as states
use Rattle.b67_table.specs.Image.{Image, is_able}
use Rattle.b67_table.specs.Ending.{ImageEnd, image_end, may_act, failed}
use Rattle.b67_table.specs.Ending as ending
use Rattle.b67_table.specs.Outcome.{gives, faults, interrupts, limit}
use Rattle.b67_table.specs.Runs.{entry, Plains, Tails, count_of, acts, fails}
use Rattle.b67_table.specs.Runs as runs
use Rattle.b67_table.specs.Sound.{Sound}
use Rattle.b67_table.specs.Table.{table, plain}
use Rattle.b67_table.specs.Valid.{IsValid, waits}
use Rattle.b67_table.proofs.Lists.{numbered_within}
use Rattle.b67_table.proofs.Cited.{history_within, may_by}
use Rattle.b67_intrinsics.specs.Called.{ImageIsLeft}
use Rattle.b67_action.specs.declared.done.Done.{Done}
use Rattle.b67_action.specs.declared.done.Done.TheVariants as dones
use Rattle.b67_action.specs.Done.{MakesNext}
use Rattle.b67_machine.specs.declared.replay.Replayed.{Replayed}
use Rattle.b67_machine.specs.declared.replay.Replayed.TheVariants as replayed
use Rattle.b67_machine.specs.declared.entry.Performed.{Performed}
use Rattle.b67_machine.specs.Kept.{MachineModel, Counts, operators_counted}
use Rattle.b67_machine.specs.Letters.{or_before, lettered}
use Rattle.b67_machine.specs.Reads.{machine_end}
use Rattle.b67_machine.specs.Stepping.{operators_in, limit_of, lacks, MachineActs, StepsBy, MachineFollows, MachineGoes, MachinePerforms}
use Rattle.b67_machine.specs.Replaying.{tails_of, tail_of, ReplayAnswers, MachineStands, is_lacking, ReplaysEntries, Between, Advances, StopsBefore, within_entry}
use Rattle.b67_machine.proofs.Ends.{goes_on, same_end, no_end}
use Rattle.b67_machine.proofs.Tailing.{tail_of_next, no_tail}

-- ---- numbers

pub one_of_able : (ss : List ProcessState) (p : ℕ) → is_able (numbered ss p) ≡ true → 1 ≤ p
one_of_able ss zero e = cc
one_of_able ss (suc k) e = omega arith

counts_by : (b : Bool) (before after : List ℕ) (p n q : ℕ) → Counts before p n after → nat_eq q p ≡ b → operators_counted after q ≡ operators_counted before q + (if b then n else 0)
counts_by true before after p n q c e =
    subst (λ (k : ℕ). operators_counted after k ≡ operators_counted before k + n) (sym (eqb-true q p e)) c.own
counts_by false before after p n q c e =
    let same : operators_counted after q ≡ operators_counted before q = c.others q (λ (s : q ≡ p). true≢false (sym (eq-eqb q p s) ∙ e)) in
    omega (arith, same)

counts_more : (before after : List ℕ) (p n q : ℕ) → Counts before p n after → operators_counted after q ≡ operators_counted before q + (if nat_eq q p then n else 0)
counts_more before after p n q c = counts_by (nat_eq q p) before after p n q c refl

counts_two : (b : Bool) (n x y z c : ℕ) → x ≡ y + (if b then 1 else 0) → y ≡ z + (if b then n else 0) → z ≡ c → x ≡ (if b then n + 1 else 0) + c
counts_two true n x y z c e f g = omega (arith, e, f, g)
counts_two false n x y z c e f g = omega (arith, e, f, g)

counts_none : (b : Bool) (x y : ℕ) → x ≡ y + (if b then 0 else 0) → x ≡ y
counts_none true x y e = omega (arith, e)
counts_none false x y e = omega (arith, e)

same_counts : (before after : List ℕ) (p q : ℕ) → Counts before p 0 after → operators_counted after q ≡ operators_counted before q
same_counts before after p q c = counts_none (nat_eq q p) (operators_counted after q) (operators_counted before q) (counts_more before after p 0 q c)

pub done_within : (code : Code) (done : List ℕ) (noted : List Letter) (spent : ℕ) (m : MachineModel) → Between code done noted spent m → length done ≤ spent
done_within code done noted spent m b =
    omega (arith, ap length b.order, length-reverse b.history, history_within code b.history b.numbers m.image b.runs, b.spends)

counts_none_more : (b : Bool) (x y : ℕ) → x ≡ y → x ≡ y + (if b then 0 else 0)
counts_none_more true x y e = omega (arith, e)
counts_none_more false x y e = omega (arith, e)

-- ---- an entry

abbrev pub HasState : ℕ → Image → Type 0
HasState p img = (x : ProcessState) × (numbered img.states p ≡ Some x)

-- the entry is performed, with the letter that the machine has after it
pub record FollowsOn (code : Code) (budget : ℕ) (done : List ℕ) (noted : List Letter) (spent p : ℕ) (new : MachineModel) : Type 0 where
  pub l : Letter
  pub letter : new.letter ≡ Some l
  pub between : Between code (done ++ p ∷ []) (noted ++ l ∷ []) (spent + 1) new
  pub within : spent + 1 ≤ budget
  pub state : HasState p new.image

-- what an entry comes to
abbrev pub Comes : Code → ℕ → List ℕ → List Letter → ℕ → ℕ → MachineModel → Option Done → Type 0
Comes code budget done noted spent p new None = Advances code budget done (p ∷ []) spent done noted new (Some replayed.BudgetSpent)
Comes code budget done noted spent p new (Some dones.StackLimit) = Advances code budget done (p ∷ []) spent done noted new (Some replayed.Ended)
Comes code budget done noted spent p new (Some dones.NoMemory) = Advances code budget done (p ∷ []) spent done noted new (Some replayed.NoMemory)
Comes code budget done noted spent p new (Some (dones.Interrupt kind)) = ⊥
Comes code budget done noted spent p new (Some d) = FollowsOn code budget done noted spent p new

pub state_of : (o : Option ProcessState) → is_able o ≡ true → (x : ProcessState) × (o ≡ Some x)
state_of None e = cc
state_of (Some x) e = (x, refl)

state_waits : (o : Option ProcessState) → waits o ≡ true → (x : ProcessState) × (o ≡ Some x)
state_waits None e = cc
state_waits (Some x) e = (x, refl)

module _ (code : Code) (budget : ℕ) (done : List ℕ) (noted : List Letter) (spent : ℕ) (m : MachineModel) (b : Between code done noted spent m) (p : ℕ) (going : machine_end m ≡ None)
    (able : is_able (numbered m.image.states p) ≡ true) (n : ℕ) (quiet : MachineModel) (goes : MachineGoes m p n quiet) where
  quiet_end : image_end quiet.image ≡ None
  quiet_end = same_end m.image quiet.image goes.states goes.fault ∙ (goes_on m going).end

  able_then : is_able (numbered quiet.image.states p) ≡ true
  able_then = ap (λ (ss : List ProcessState). is_able (numbered ss p)) goes.states ∙ able

  may_then : may_act quiet.image p ≡ true
  may_then = may_by quiet.image p quiet_end able_then

  same_code : quiet.code ≡ code
  same_code = ap (λ (k : MachineModel). k.code) goes.others ∙ b.same

  none_lacked : quiet.lacked ≡ false
  none_lacked = ap (λ (k : MachineModel). k.lacked) goes.others ∙ b.lacked

  no_limit : quiet.limit ≡ None
  no_limit = ap (λ (k : MachineModel). k.limit) goes.others ∙ b.limit

  plains : Plains code p m.image n quiet.image
  plains = subst (λ (c : Code). Plains c p m.image n quiet.image) b.same goes.performed

  tails : (more : List ℕ) → Tails code 1 m.image (tails_of (p ∷ more) n) quiet.image
  tails more = tail_of_next code p n more m.image quiet.image (one_of_able m.image.states p able) plains

  -- it ends within the entry
  stopped : (new : MachineModel) (answer : Replayed) (more : List ℕ) → MachineStands (is_lacking answer) quiet.image new.image → ((q : ℕ) → operators_counted new.counts q ≡ operators_counted quiet.counts q) → spent + n ≤ budget
      → ReplayAnswers code budget (sum b.numbers + n) done (p ∷ more) n quiet.image new answer → new.lacked ≡ is_lacking answer → new.code ≡ code
      → ReplaysEntries code ((done ++ p ∷ []) ++ more) budget done noted new answer
  stopped new answer more stands counts within answers lacked same = record {
    left = p ∷ more;
    tail = n;
    split = append_assoc done (p ∷ []) more;
    image = quiet.image;
    run = record { history = b.history; counts = b.numbers; before_tails = m.image; order = b.order; runs = b.runs; after = tails more };
    letters_are = b.letters_are;
    stands = stands;
    counts = λ q. counts q ∙ counts_more m.counts quiet.counts p n q goes.counts ∙ ap (λ (k : ℕ). k + tail_of (p ∷ more) n q) (b.counts q);
    within = omega (arith, b.spends, within);
    answers = answers;
    lacked = lacked;
    same = same;
  }

  at_budget : (new : MachineModel) → spent < budget → n ≡ budget - spent → new ≡ quiet → Advances code budget done (p ∷ []) (spent + n) done noted new (Some replayed.BudgetSpent)
  at_budget new less all same = λ more.
      stopped new replayed.BudgetSpent more (ap (λ (k : MachineModel). k.image) same) (λ q. ap (λ (k : MachineModel). operators_counted k.counts q) same) (omega (arith, all, less))
      (quiet_end, omega (arith, b.spends, all, less), inr may_then, ap (λ (k : MachineModel). k.limit) same ∙ no_limit)
      (ap (λ (k : MachineModel). k.lacked) same ∙ none_lacked) (ap (λ (k : MachineModel). k.code) same ∙ same_code)

  at_limit : (new : MachineModel) → n < budget - spent → MachineActs quiet p dones.StackLimit new → Advances code budget done (p ∷ []) (spent + n) done noted new (Some replayed.Ended)
  at_limit new less a = λ more.
      stopped new replayed.Ended more (a.image ∙ a.came.1) (λ q. same_counts quiet.counts new.counts p q a.counts) (omega (arith, less))
      (inr (omega (arith, b.spends, less), may_then, (subst (λ (c : Code). table c quiet.image p ≡ limit) same_code a.came.0, a.limit)))
      a.lacked (a.code ∙ same_code)

  without_memory : (new : MachineModel) → n < budget - spent → MachineActs quiet p dones.NoMemory new → Advances code budget done (p ∷ []) (spent + n) done noted new (Some replayed.NoMemory)
  without_memory new less a = λ more.
      stopped new replayed.NoMemory more (subst (ImageIsLeft quiet.image) (sym a.image) a.came.1) (λ q. same_counts quiet.counts new.counts p q a.counts) (omega (arith, less))
      (omega (arith, b.spends, less), may_then, subst (λ (c : Code). MakesNext c quiet.image p) same_code a.came.0, a.limit)
      a.lacked (a.code ∙ same_code)

  -- the action is performed
  next : (d : Done) (new : MachineModel) → MachineActs quiet p d new → operators_in d ≡ 1 → limit_of p d ≡ None → lacks d ≡ false → runs.ProcessActs code p quiet.image new.image
      → (l : Letter) → letter code quiet.image p ≡ Some l → Between code (done ++ p ∷ []) (noted ++ l ∷ []) (spent + n + 1) new
  next d new a one none lack action l named =
      let counts : Counts quiet.counts p 1 new.counts = subst (λ (k : ℕ). Counts quiet.counts p k new.counts) one a.counts in
      record {
        history = p ∷ b.history;
        numbers = (n + 1) ∷ b.numbers;
        order = ap (λ (xs : List ℕ). xs ++ p ∷ []) b.order ∙ sym (reverse-append (p ∷ []) b.history);
        runs = entry b.runs (record { may = may_by m.image p (goes_on m going).end able; quiet = quiet.image; plains = plains; action = action });
        letters_are = ap (λ (o : Option Letter). o ∷ letters b.runs) named ∙ ap (λ (os : List (Option Letter)). Some l ∷ os) b.letters_are
            ∙ ap (λ (ls : List Letter). map Some ls) (sym (reverse-append noted (l ∷ [])));
        spends = omega (arith, b.spends, sum_by-cons (λ (x : ℕ). x) (n + 1) b.numbers);
        counts = λ q. counts_two (nat_eq q p) n (operators_counted new.counts q) (operators_counted quiet.counts q) (operators_counted m.counts q) (count_of q b.history b.numbers)
            (counts_more quiet.counts new.counts p 1 q counts) (counts_more m.counts quiet.counts p n q goes.counts) (b.counts q);
        limit = a.limit ∙ none;
        lacked = a.lacked ∙ lack;
        same = a.code ∙ same_code;
      }

  -- and is followed with its letter
  on : (d : Done) (new : MachineModel) → n < budget - spent → MachineActs quiet p d new → operators_in d ≡ 1 → limit_of p d ≡ None → lacks d ≡ false → runs.ProcessActs code p quiet.image new.image
      → HasState p new.image → FollowsOn code budget done noted (spent + n) p new
  on d new less a one none lack action state =
      let k = actions_have_letters.acts code quiet.image new.image p action in
      let first : operators_in d ≡ suc 0 = one in
      record {
        l = k.0;
        letter = a.letter_is
            ∙ ap (λ (m : ℕ). lettered m (letter quiet.code quiet.image p) quiet.letter) first
            ∙ ap (λ (c : Code). or_before (letter c quiet.image p) quiet.letter) same_code
            ∙ ap (λ (o : Option Letter). or_before o quiet.letter) k.1;
        between = next d new a one none lack action k.0 k.1;
        within = omega (arith, less);
        state = state;
      }

  gives_next : (new acted : Image) → plain quiet.code quiet.image p ≡ false → table quiet.code quiet.image p ≡ gives acted → new ≡ acted → runs.ProcessActs code p quiet.image new
  gives_next new acted e t same =
      subst (λ (c : Code). runs.ProcessActs c p quiet.image new) same_code (subst (λ (x : Image). runs.ProcessActs quiet.code p quiet.image x) (sym same) (acts e t))

  fails_next : (new acted : Image) (kind : FaultKind) → table quiet.code quiet.image p ≡ faults kind → acted ≡ quiet.image → new ≡ failed acted p kind → runs.ProcessActs code p quiet.image new
  fails_next new acted kind t left same =
      subst (λ (c : Code). runs.ProcessActs c p quiet.image new) same_code
      (subst (λ (x : Image). runs.ProcessActs quiet.code p quiet.image x) (sym (same ∙ ap (λ (x : Image). failed x p kind) left)) (fails kind t))

  state_then : (new acted : Image) → new ≡ acted → (x : ProcessState) × (numbered acted.states p ≡ Some x) → HasState p new
  state_then new acted same k = (k.0, ap (λ (i : Image). numbered i.states p) same ∙ k.1)

  state_stays : (new : Image) → new.states ≡ quiet.image.states → HasState p new
  state_stays new same =
      let k = state_of (numbered quiet.image.states p) able_then in (k.0, ap (λ (ss : List ProcessState). numbered ss p) same ∙ k.1)

  -- the process is there still
  state_by : (d : Done) (new : MachineModel) → MachineActs quiet p d new → HasState p new.image
  unfolding failed
  state_by dones.Went new a = state_then new.image a.acted a.image (state_of (numbered a.acted.states p) a.came.1)
  state_by dones.Waits new a = state_then new.image a.acted a.image (state_waits (numbered a.acted.states p) a.came.1)
  state_by dones.Ended new a = state_then new.image a.acted a.image (states.Ended, a.came.1)
  state_by (dones.Fault kind) new a = state_stays new.image (ap (λ (i : Image). i.states) a.image ∙ ap (λ (i : Image). i.states) a.came.1)
  state_by (dones.Interrupt kind) new a = state_stays new.image (ap (λ (i : Image). i.states) (a.image ∙ a.came.1))
  state_by dones.StackLimit new a = state_stays new.image (ap (λ (i : Image). i.states) (a.image ∙ a.came.1))
  state_by dones.NoMemory new a = state_stays new.image (ap (λ (i : Image). i.states) a.image ∙ ap (λ (i : Image). i.states) a.came.1.others)

  state_after : (o : Option Done) (new : MachineModel) → MachineFollows quiet p n (budget - spent) o new → HasState p new.image
  state_after None new f = state_stays new.image (ap (λ (k : MachineModel). k.image.states) f.1)
  state_after (Some d) new f = state_by d new (subst (λ (x : Bool). StepsBy x quiet p d new) none_lacked f.2)

  comes_by : Sound code → (d : Done) (new : MachineModel) → n < budget - spent → plain quiet.code quiet.image p ≡ false → MachineActs quiet p d new → Comes code budget done noted (spent + n) p new (Some d)
  unfolding failed
  comes_by sound dones.Went new less e a = on dones.Went new less a refl refl refl (gives_next new.image a.acted e a.came.0 a.image) (state_by dones.Went new a)
  comes_by sound dones.Waits new less e a = on dones.Waits new less a refl refl refl (gives_next new.image a.acted e a.came.0 a.image) (state_by dones.Waits new a)
  comes_by sound dones.Ended new less e a = on dones.Ended new less a refl refl refl (gives_next new.image a.acted e a.came.0 a.image) (state_by dones.Ended new a)
  comes_by sound (dones.Fault kind) new less e a = on (dones.Fault kind) new less a refl refl refl (fails_next new.image a.acted kind a.came.0 a.came.1 a.image) (state_by (dones.Fault kind) new a)
  comes_by sound (dones.Interrupt kind) new less e a =
      sound.tagged done (tails_of (p ∷ []) n) quiet.image
      (record { history = b.history; counts = b.numbers; before_tails = m.image; order = b.order; runs = b.runs; after = tails [] })
      quiet_end p able_then (kind, subst (λ (c : Code). table c quiet.image p ≡ interrupts kind) same_code a.came.0)
  comes_by sound dones.StackLimit new less e a = at_limit new less a
  comes_by sound dones.NoMemory new less e a = without_memory new less a

  comes_then : Sound code → (o : Option Done) (new : MachineModel) → spent < budget → MachineFollows quiet p n (budget - spent) o new → Comes code budget done noted (spent + n) p new o
  comes_then sound None new less f = at_budget new less f.0 f.1
  comes_then sound (Some d) new less f = comes_by sound d new f.0 f.1 (subst (λ (x : Bool). StepsBy x quiet p d new) none_lacked f.2)

pub comes : (code : Code) (budget : ℕ) (done : List ℕ) (noted : List Letter) (spent : ℕ) (m : MachineModel) (p : ℕ) (performed : Performed) (new : MachineModel) → Sound code → Between code done noted spent m → machine_end m ≡ None
    → is_able (numbered m.image.states p) ≡ true → spent < budget → MachinePerforms m p (budget - spent) performed new → Comes code budget done noted (spent + performed.plain) p new performed.done
comes code budget done noted spent m p performed new sound b going able less k =
    comes_then code budget done noted spent m b p going able performed.plain k.between k.plains sound performed.done new less k.then

pub performed_state : (code : Code) (budget : ℕ) (done : List ℕ) (noted : List Letter) (spent : ℕ) (m : MachineModel) (p : ℕ) (performed : Performed) (new : MachineModel) → Between code done noted spent m → machine_end m ≡ None
    → is_able (numbered m.image.states p) ≡ true → MachinePerforms m p (budget - spent) performed new → HasState p new.image
performed_state code budget done noted spent m p performed new b going able k = state_after code budget done noted spent m b p going able performed.plain k.between k.plains performed.done new k.then

-- the replay ends within the entry
pub ends_within : (code : Code) (budget : ℕ) (done : List ℕ) (noted : List Letter) (spent p : ℕ) (new : MachineModel) (o : Option Done) (answer : Replayed) → within_entry o ≡ Some answer
    → Comes code budget done noted spent p new o → Advances code budget done (p ∷ []) spent done noted new (Some answer)
ends_within code budget done noted spent p new None answer e k = subst (λ (x : Option Replayed). Advances code budget done (p ∷ []) spent done noted new x) e k
ends_within code budget done noted spent p new (Some dones.StackLimit) answer e k = subst (λ (x : Option Replayed). Advances code budget done (p ∷ []) spent done noted new x) e k
ends_within code budget done noted spent p new (Some dones.NoMemory) answer e k = subst (λ (x : Option Replayed). Advances code budget done (p ∷ []) spent done noted new x) e k
ends_within code budget done noted spent p new (Some (dones.Interrupt kind)) answer e k = cc
ends_within code budget done noted spent p new (Some dones.Went) answer e k = cc
ends_within code budget done noted spent p new (Some dones.Waits) answer e k = cc
ends_within code budget done noted spent p new (Some dones.Ended) answer e k = cc
ends_within code budget done noted spent p new (Some (dones.Fault kind)) answer e k = cc

-- or the entry is performed
pub goes_through : (code : Code) (budget : ℕ) (done : List ℕ) (noted : List Letter) (spent p : ℕ) (new : MachineModel) (o : Option Done) → within_entry o ≡ None → Comes code budget done noted spent p new o
    → FollowsOn code budget done noted spent p new
goes_through code budget done noted spent p new None e k = cc
goes_through code budget done noted spent p new (Some dones.StackLimit) e k = cc
goes_through code budget done noted spent p new (Some dones.NoMemory) e k = cc
goes_through code budget done noted spent p new (Some (dones.Interrupt kind)) e k = absurd k
goes_through code budget done noted spent p new (Some dones.Went) e k = k
goes_through code budget done noted spent p new (Some dones.Waits) e k = k
goes_through code budget done noted spent p new (Some dones.Ended) e k = k
goes_through code budget done noted spent p new (Some (dones.Fault kind)) e k = k

-- where the entry is performed, its operator is counted
pub last_noted : (code : Code) (budget : ℕ) (done : List ℕ) (noted : List Letter) (spent p : ℕ) (new : MachineModel) (o : Option Done) (P : Type 0) → within_entry o ≡ None
    → Comes code budget done noted spent p new o → IfSome o (λ d. operators_in d ≡ 1 → P) → P
last_noted code budget done noted spent p new None P e k h = cc
last_noted code budget done noted spent p new (Some dones.StackLimit) P e k h = cc
last_noted code budget done noted spent p new (Some dones.NoMemory) P e k h = cc
last_noted code budget done noted spent p new (Some (dones.Interrupt kind)) P e k h = absurd k
last_noted code budget done noted spent p new (Some dones.Went) P e k h = h refl
last_noted code budget done noted spent p new (Some dones.Waits) P e k h = h refl
last_noted code budget done noted spent p new (Some dones.Ended) P e k h = h refl
last_noted code budget done noted spent p new (Some (dones.Fault kind)) P e k h = h refl

-- the process has a number that a schedule can hold
pub number_within : (code : Code) (img : Image) (p : ℕ) → IsValid code img → HasState p img → p ≤ 256
number_within code img p v k = omega (arith, numbered_within img.states p k.0 k.1, v.states, v.most)

-- ---- before an entry

pub part : (b : Bool) (n x s : ℕ) → x ≤ s → (if b then n else 0) + x ≤ n + s
part true n x s h = omega (arith, h)
part false n x s h = omega (arith, h)

pub count_most : (p : ℕ) (h numbers : List ℕ) → count_of p h numbers ≤ sum numbers
count_most p [] numbers = omega arith
count_most p (q ∷ h) [] = omega arith
count_most p (q ∷ h) (n ∷ numbers) =
    omega (arith, part (nat_eq p q) n (count_of p h numbers) (sum numbers) (count_most p h numbers), sum_by-cons (λ (x : ℕ). x) n numbers)

pub counted_within : (code : Code) (done : List ℕ) (noted : List Letter) (spent : ℕ) (m : MachineModel) (p : ℕ) → Between code done noted spent m → operators_counted m.counts p ≤ spent
counted_within code done noted spent m p b = omega (arith, b.counts p, count_most p b.history b.numbers, b.spends)

may_not : (o : Option ImageEnd) (able : Bool) → o ≢ None → ending.goes_on o able ≡ false
may_not None able h = absurd (h refl)
may_not (Some e) able h = refl

illegal_by_end : (img : Image) (p : ℕ) → image_end img ≢ None → may_act img p ≡ false
unfolding may_act
illegal_by_end img p h = may_not (image_end img) (is_able (numbered img.states p)) h

illegal_by_state : (img : Image) (p : ℕ) → image_end img ≡ None → is_able (numbered img.states p) ≡ false → may_act img p ≡ false
unfolding may_act
illegal_by_state img p e h = ap (λ (o : Option ImageEnd). ending.goes_on o (is_able (numbered img.states p))) e ∙ h

module _ (code : Code) (budget : ℕ) (done : List ℕ) (noted : List Letter) (spent : ℕ) (m : MachineModel) (b : Between code done noted spent m) (p : ℕ) (within : spent ≤ budget) where
  -- nothing of the entry is performed
  held : (answer : Replayed) (more : List ℕ) → is_lacking answer ≡ false → ReplayAnswers code budget (sum b.numbers + 0) done (p ∷ more) 0 m.image m answer
      → ReplaysEntries code ((done ++ p ∷ []) ++ more) budget done noted m answer
  held answer more lacking answers = record {
    left = p ∷ more;
    tail = 0;
    split = append_assoc done (p ∷ []) more;
    image = m.image;
    run = record { history = b.history; counts = b.numbers; before_tails = m.image; order = b.order; runs = b.runs; after = no_tail code (p ∷ more) m.image };
    letters_are = b.letters_are;
    stands = subst (λ (x : Bool). MachineStands x m.image m.image) (sym lacking) refl;
    counts = λ q. counts_none_more (nat_eq q p) (operators_counted m.counts q) (count_of q b.history b.numbers) (b.counts q);
    within = omega (arith, b.spends, within);
    answers = answers;
    lacked = b.lacked ∙ sym lacking;
    same = b.same;
  }

  ended : machine_end m ≢ None → image_end m.image ≢ None
  ended h = λ e. h (no_end m e b.limit)

  pub stops : (number : ℕ) (answer : Replayed) → number ≡ length done + 1 → StopsBefore m p budget spent number (Some answer)
      → Advances code budget done (p ∷ []) spent done noted m (Some answer)
  stops number replayed.Ended same s = absurd s
  stops number replayed.Ran same s = absurd s
  stops number replayed.NoMemory same s = absurd s
  stops number (replayed.Differs n) same s = absurd s
  stops number replayed.BudgetSpent same s = λ more.
      held replayed.BudgetSpent more refl ((goes_on m s.0).end, omega (arith, b.spends, s.1, within), inl refl, b.limit)
  stops number (replayed.Illegal n) same (e, inl h) = λ more.
      held (replayed.Illegal n) more refl (refl, e ∙ same, illegal_by_end m.image p (ended h), inl (ended h), b.limit)
  stops number (replayed.Illegal n) same (e, inr h) = λ more.
      held (replayed.Illegal n) more refl (refl, e ∙ same, illegal_by_state m.image p (goes_on m h.0).end h.2, inr (omega (arith, b.spends, h.1)), b.limit)
