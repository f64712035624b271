-- The report of a machine after a run of a faithful code explains it.
use Rattle.std.proofs.Common.{◌≡◌, ◌⊎◌, inl, inr, ℕ, suc, ◌+◌, ◌*◌, ◌≤◌, Bool, true, false, List, [], ◌∷◌, ◌++◌, length, Option, Some, None, refl, sym, ap, ◌∙◌, subst, arith}
use Rattle.std.specs.Prelude.{◌≢◌, reverse, sum}
use Rattle.std.specs.List.{All, AllByRecursion}
use mathlib.Core.List.{reverse-cons}
use Rattle.algol_tree.specs.Plain.{PProgram}
use Rattle.algol_tree.specs.Scopes.{scopes_of}
use Rattle.algol_meaning.specs.Run.{run, start}
use Rattle.algol_laws.specs.Kept.{EachRunGrows}
use Rattle.b67_deeds.specs.declared.Letter.{Letter}
use Rattle.b67_schedule.specs.declared.reading.Given.{Given}
use Rattle.b67_schedule.specs.declared.reading.Given.TheVariants.{One, Two}
use Rattle.b67_schedule.specs.Giving.{given_entries}
use Rattle.b67_schedule.specs.Schedules.{entries, IsSchedule, ScheduleModel}
use Rattle.b67_machine.specs.Letters.{AreLetters}
use Rattle.b67_report.specs.Reading.{IsLine, IsReport}
use Rattle.b67_report.specs.declared.Report.{Report}
use Rattle.b67_report.specs.declared.EndWords.{EndWords}
use Rattle.b67_report.specs.declared.EndWords.TheVariants as words
use Rattle.b67_listing.specs.Listings.{ListingText}
use Rattle.b67_segment.specs.declared.code.Code.{Code}
use Rattle.b67_table.specs.Image.{Image}
use Rattle.b67_table.specs.Ending.{ImageEnd, image_end, may_act}
use Rattle.b67_table.specs.Runs.{TableRun, Runs, begin, entry, count_of, none}
use Rattle.b67_table.proofs.Cited.{may_parts}
use Rattle.b67_faithful.specs.Agreement.{WorldAgrees}
use Rattle.b67_faithful.specs.Faithful.{Faithful, longest}
use Rattle.b67_machine.specs.declared.replay.Replayed.{Replayed}
use Rattle.b67_machine.specs.declared.replay.Replayed.TheVariants.{Ended, Ran, Illegal, BudgetSpent, NoMemory, Differs}
use Rattle.b67_machine.specs.declared.reads.End.{End}
use Rattle.b67_machine.specs.declared.reads.End.TheVariants as machine_ends
use Rattle.b67_machine.specs.Kept.{MachineModel, operators_counted}
use Rattle.b67_machine.specs.Reads.{machine_end, machine_end_by, end_shown, limit_end}
use Rattle.b67_machine.specs.Replaying.{Replays, ReplaysEntries, ReplayAnswers, MayGo, ReplayAtLimit, MachineStands, is_lacking, tails_of, tail_of, NoneDiffers, AgreeAs, letters_of}
use Rattle.b67_list.proofs.Numbers.{more_room}
use Rattle.b67_explain.specs.Explaining.{EndIs, ScheduleIsLeft, IsTail, NextGoes, Explains, ExplainsReplay, AgreeBy}
use Rattle.b67_explain.specs.Explaining.{NoneDiffers as NoneSaid, AgreeAs as SaidAs}
use Rattle.b67_explain.specs.Telling.{CanBeTold, EndTells, IsReportOf}
use Rattle.b67_explain.proofs.Outputs.{run_writes}
use Rattle.b67_explain.proofs.Printed.{listing_fine, output_fine}
use Rattle.b67_explain.proofs.Naming.{IsOneOf, able_is_one, entries_are_there}
use Rattle.b67_explain.proofs.Summing.{from_on, from_on_sum, entries_by_process, sum_by_number}
use Rattle.b67_explain.proofs.Tailed.{IsTailOf, tail_counted, tail_sum, sum_tails, tails_are_few}
use Rattle.b67_explain.proofs.Ending.{going_there, Said, said_of}

all_split : (P : ℕ → Type 0) (xs ys : List ℕ) → AllByRecursion P (xs ++ ys) → AllByRecursion P xs × AllByRecursion P ys
all_split P [] ys h = (tt, h)
all_split P (x ∷ xs) ys h = let rest = all_split P xs ys h.1 in ((h.0, rest.0), rest.1)

pub all_back : (P : ℕ → Type 0) (xs : List ℕ) → AllByRecursion P (reverse xs) → AllByRecursion P xs
all_back P [] h = tt
all_back P (x ∷ xs) h = let both = all_split P (reverse xs) (x ∷ []) (subst (AllByRecursion P) (reverse-cons x xs) h) in (both.1.0, all_back P xs both.0)

pub count_for_each : {code : Code} {h counts : List ℕ} {img : Image} → Runs code h counts img → length counts ≡ length h
count_for_each begin = refl
count_for_each (entry runs e) = ap suc (count_for_each runs)

-- a run that is told did not lack memory
not_lacking : (answer : Replayed) (m : MachineModel) (end : EndWords) → EndTells answer (machine_end m) end → is_lacking answer ≡ false
not_lacking Ended m end tells = refl
not_lacking Ran m end tells = refl
not_lacking (Illegal number) m end tells = refl
not_lacking BudgetSpent m end tells = refl
not_lacking NoMemory m end tells = absurd tells
not_lacking (Differs number) m end tells = refl

-- where there is a tail, the next entry may go
tail_may_go : (code : Code) (budget spent : ℕ) (done left : List ℕ) (tail : ℕ) (img : Image) (m : MachineModel) (answer : Replayed) →
    ReplayAnswers code budget spent done left tail img m answer → (tail ≡ 0) ⊎ MayGo left img
tail_may_go code budget spent done left tail img m Ended (inl a) = inl a.0
tail_may_go code budget spent done left tail img m Ended (inr a) = inr a.1
tail_may_go code budget spent done left tail img m Ran a = inl a.0
tail_may_go code budget spent done left tail img m (Illegal number) a = inl a.0
tail_may_go code budget spent done left tail img m BudgetSpent a = a.2
tail_may_go code budget spent done left tail img m NoMemory a = inr a.1
tail_may_go code budget spent done left tail img m (Differs number) a = inl a.0

bound_without : (tree : PProgram) (code : Code) (n : ℕ) (done tails : List ℕ) (tail : ℕ) (img : Image) → Faithful tree code → (r : TableRun code done tails img) → tail ≡ 0 →
    sum r.counts + tail ≤ (length done + n) * longest code.segments
bound_without tree code n done tails tail img faithful r none_there =
    let few = faithful.few done [] r.before_tails
    (record { history = r.history; counts = r.counts; before_tails = r.before_tails; order = r.order; runs = r.runs; after = none }) in
    let more = more_room (length done + 0) (length done + n) (longest code.segments) (omega arith) in
    omega (arith, few, more, none_there)

-- the longest segment bounds the operators of a run
bound_of : (tree : PProgram) (code : Code) (n : ℕ) (done left : List ℕ) (tail : ℕ) (img : Image) → Faithful tree code → (r : TableRun code done (tails_of left tail) img) → IsTailOf n left tail →
    sum r.counts + tail ≤ (length done + n) * longest code.segments
bound_of tree code n done [] tail img faithful r none_there = bound_without tree code n done (tails_of [] tail) tail img faithful r none_there
bound_of tree code n done (q ∷ left) tail img faithful r (inl none_there) = bound_without tree code n done (tails_of (q ∷ left) tail) tail img faithful r none_there
bound_of tree code n done (q ∷ left) tail img faithful r (inr there) =
    let few = faithful.few done (tails_of (q ∷ left) tail) img r in
    let short = tails_are_few n q left tail there.0 there.1 in
    let more = more_room (length done + length (tails_of (q ∷ left) tail)) (length done + n) (longest code.segments) (omega (arith, short)) in
    let all_tails = sum_tails q left tail in
    omega (arith, few, more, all_tails)

module _ (grows : EachRunGrows) (tree : PProgram) (code : Code) (faithful : Faithful tree code) (given : List ℕ) (budget : ℕ) (m : MachineModel) (answer : Replayed) (schedule : ScheduleModel)
    (replays : ReplaysEntries code given budget (entries schedule.runs) schedule.letters m answer) (processors : ℕ) (lines : List (List ℕ)) (report : Report)
    (is : IsReportOf m answer lines processors schedule report) where
  abbrev done : List ℕ
  done = entries schedule.runs

  abbrev agrees : WorldAgrees tree code done replays.image
  agrees = faithful.follows.legal done (tails_of replays.left replays.tail) replays.image replays.run

  stands_there : (lacking : Bool) → lacking ≡ false → MachineStands lacking replays.image m.image → m.image ≡ replays.image
  stands_there false e stands = stands
  stands_there true e stands = cc

  same : m.image ≡ replays.image
  same = stands_there (is_lacking answer) (not_lacking answer m report.end is.end) replays.stands

  number_is : replays.image.started ≡ length agrees.world.processes
  number_is = agrees.shows.started

  each_there : AllByRecursion (IsOneOf replays.image.started) done
  unfolding run
  each_there =
      subst (λ (n : ℕ). AllByRecursion (IsOneOf n) done) (sym number_is)
      (entries_are_there (scopes_of tree) grows done (start (scopes_of tree)) agrees.world agrees.is)

  history_there : AllByRecursion (IsOneOf replays.image.started) replays.run.history
  history_there = all_back (IsOneOf replays.image.started) replays.run.history (subst (AllByRecursion (IsOneOf replays.image.started)) replays.run.order each_there)

  may_is_one : (p : ℕ) → may_act replays.image p ≡ true → IsOneOf replays.image.started p
  may_is_one p h =
      subst (λ (n : ℕ). IsOneOf n p) (sym number_is) (able_is_one agrees.world p (agrees.shows.able p ∙ (may_parts replays.image p h).1))

  tail_is : (left : List ℕ) → (replays.tail ≡ 0) ⊎ MayGo left replays.image → IsTailOf replays.image.started left replays.tail
  tail_is [] (inl none_there) = none_there
  tail_is [] (inr goes) = absurd goes
  tail_is (q ∷ left) (inl none_there) = inl none_there
  tail_is (q ∷ left) (inr goes) = inr (may_is_one q goes)

  goes : (replays.tail ≡ 0) ⊎ MayGo replays.left replays.image
  goes = tail_may_go code budget (sum replays.run.counts + replays.tail) done replays.left replays.tail replays.image m answer replays.answers

  tailed : IsTailOf replays.image.started replays.left replays.tail
  tailed = tail_is replays.left goes

  number_of : length report.operators ≡ replays.image.started
  number_of = is.operators.each ∙ ap (λ (i : Image). i.started) same

  abbrev own : ℕ → ℕ
  own p = count_of p replays.run.history replays.run.counts + tail_of replays.left replays.tail p

  -- each count is the process's
  count_is : (p : ℕ) → 1 ≤ p → p ≤ length report.operators → operators_counted report.operators p ≡ own p
  count_is p one most = is.operators.are p one most ∙ replays.counts p

  -- and together they are all operators of the run
  all_operators : sum report.operators ≡ sum replays.run.counts + replays.tail
  all_operators =
      let n = replays.image.started in
      let by_number = sum_by_number own report.operators count_is in
      let by_length : from_on own 1 (length report.operators) ≡ from_on own 1 n = ap (from_on own 1) number_of in
      let both = from_on_sum (λ p. count_of p replays.run.history replays.run.counts) (tail_of replays.left replays.tail) n in
      let first = entries_by_process n replays.run.history replays.run.counts (count_for_each replays.run.runs) history_there in
      let second = tail_sum n replays.left replays.tail tailed in
      omega (arith, by_number, by_length, both, first, second)

  bound : sum replays.run.counts + replays.tail ≤ (length done + replays.image.started) * longest code.segments
  bound = bound_of tree code replays.image.started done replays.left replays.tail replays.image faithful replays.run tailed

  abbrev said : Said tree code agrees.world replays.image agrees.shows agrees.fits budget (sum replays.run.counts + replays.tail) (length done) replays.left replays.tail report.end
  said =
      said_of tree code agrees.world replays.image agrees.shows agrees.fits m budget (sum replays.run.counts + replays.tail) (length done) done replays.left replays.tail
      report.end same replays.within answer refl replays.answers is.end

  module _ (valid : IsSchedule schedule.runs schedule.letters) (listed : ListingText code lines) where
    schedule_is : report.schedule.runs ≡ schedule.runs
    schedule_is = ap (λ (x : ScheduleModel). x.runs) is.performed

    entries_are : entries report.schedule.runs ≡ done
    entries_are = ap entries schedule_is

    bounded_is : sum report.operators ≤ (length (entries report.schedule.runs) + length report.operators) * longest code.segments
    bounded_is =
        let room : (length done + replays.image.started) * longest code.segments ≡ (length (entries report.schedule.runs) + length report.operators) * longest code.segments =
        ap (λ n. (n + replays.image.started) * longest code.segments) (ap length (sym entries_are))
        ∙ ap (λ n. (length (entries report.schedule.runs) + n) * longest code.segments) (sym number_of) in
        omega (arith, all_operators, bound, room)

    is_report : IsReport report
    is_report = record {
      listing = record {
        each = subst (All IsLine) (sym is.listing) (listing_fine code lines faithful.listable listed);
        few = is.sizes.listing;
      };
      output = record {
        each = subst (All IsLine) (sym (is.output ∙ ap (λ (i : Image). i.output) same)) (run_writes IsLine code (output_fine code faithful.listable) replays.run);
        few = is.sizes.output;
      };
      end = is.sizes.end;
      operators = is.sizes.operators;
      acts = is.sizes.acts;
      schedule = subst (λ (x : ScheduleModel). IsSchedule x.runs x.letters) (sym is.performed) valid;
    }

    pub explained : Explains tree processors budget report
    explained = record {
      is_report = is_report;
      world = agrees.world;
      legal = ap (run tree) entries_are ∙ agrees.is;
      output = is.output ∙ ap (λ (i : Image). i.output) same ∙ agrees.shows.output;
      processors_are = is.acts.each;
      acts = is.acts.sum_is ∙ ap length (sym entries_are);
      code = code;
      listed = subst (ListingText code) (sym is.listing) listed;
      faithful = faithful;
      tails = tails_of replays.left replays.tail;
      image = replays.image;
      table_run = record {
        history = replays.run.history;
        counts = replays.run.counts;
        before_tails = replays.run.before_tails;
        order = entries_are ∙ replays.run.order;
        runs = replays.run.runs;
        after = replays.run.after;
      };
      letters = subst (λ (x : ScheduleModel). AreLetters replays.run.runs x.letters) (sym is.performed) replays.letters_are;
      shown = sym (is.output ∙ ap (λ (i : Image). i.output) same);
      same_end = agrees.shows.ends;
      processes = number_of;
      counts = λ p one most.
          count_is p one (omega (arith, number_of, most))
          ∙ ap (λ n. count_of p replays.run.history replays.run.counts + n) (sym (tail_counted replays.image.started p replays.left replays.tail one tailed));
      few = omega (arith, all_operators, replays.within);
      bounded = bounded_is;
      ended = subst (λ n. EndIs tree code agrees.world replays.image budget n report.end) (sym all_operators) said.ended;
    }

    -- and what is left of the given schedule
    pub left_split : given ≡ entries report.schedule.runs ++ replays.left
    left_split = replays.split ∙ ap (λ (xs : List ℕ). xs ++ replays.left) (sym entries_are)

    pub left_said : ScheduleIsLeft agrees.world (length (entries report.schedule.runs)) report.end replays.left
    left_said = subst (λ (xs : List ℕ). ScheduleIsLeft agrees.world (length xs) report.end replays.left) (sym entries_are) said.leaves

    pub tail_alone : IsTail report.end replays.tail
    tail_alone = said.alone

    -- where there is a tail, its process may go on in the world
    pub tail_goes : (replays.tail ≡ 0) ⊎ NextGoes agrees.world replays.left
    tail_goes = by goes
      where
        by : (replays.tail ≡ 0) ⊎ MayGo replays.left replays.image → (replays.tail ≡ 0) ⊎ NextGoes agrees.world replays.left
        by (inl none_there) = inl none_there
        by (inr may) = inr (going_there tree code agrees.world replays.image agrees.shows agrees.fits replays.left may)

    pub all_within : sum report.operators ≤ budget
    all_within = omega (arith, all_operators, replays.within)

-- ---- the letters of a replay

-- the noted letters are the first of the given ones
abbrev pub IsFront : Option (List Letter) → List Letter → Type 0
IsFront None noted = Unit {0}
IsFront (Some given) noted = (more : List Letter) × (given ≡ noted ++ more)

front_of : (answer : Replayed) → NoneDiffers answer → (given : Option (List Letter)) (noted : List Letter) → AgreeAs answer given noted → IsFront given noted
front_of answer n None noted h = tt
front_of Ended n (Some given) noted h = h
front_of Ran n (Some given) noted h = h
front_of (Illegal number) n (Some given) noted h = h
front_of BudgetSpent n (Some given) noted h = h
front_of NoMemory n (Some given) noted h = h
front_of (Differs number) n (Some given) noted h = absurd n

said_by : (end : EndWords) → NoneSaid end → (given noted : List Letter) → (more : List Letter) × (given ≡ noted ++ more) → AgreeBy end given noted
said_by words.Finished n given noted h = h
said_by (words.Fault kind process) n given noted h = h
said_by words.AllWaiting n given noted h = h
said_by words.BudgetSpent n given noted h = h
said_by (words.StackLimit process count) n given noted h = h
said_by words.ScheduleEnded n given noted h = h
said_by (words.Illegal number) n given noted h = h
said_by (words.Differs number) n given noted h = absurd n

said_as : (end : EndWords) → NoneSaid end → (given : Given) (noted : List Letter) → IsFront (letters_of given) noted → SaidAs end given noted
said_as end n (One old) noted h = n
said_as end n (Two schedule) noted h = said_by end n schedule.letters noted h

-- an end of the machine is not said as a letter that differs
plain_end : (o : Option End) (end : EndWords) → EndTells Ended o end → NoneSaid end
plain_end None end tells = absurd tells
plain_end (Some machine_ends.Finished) end tells = subst NoneSaid (sym tells) tt
plain_end (Some (machine_ends.Fault kind process)) end tells = subst NoneSaid (sym tells) tt
plain_end (Some machine_ends.AllWaiting) end tells = subst NoneSaid (sym tells) tt
plain_end (Some (machine_ends.StackLimit process count)) end tells = subst NoneSaid (sym tells) tt

agrees_said : (answer : Replayed) (o : Option End) (end : EndWords) (given : Given) (noted : List Letter) → EndTells answer o end → AgreeAs answer (letters_of given) noted → SaidAs end given noted
agrees_said Ended o end given noted tells h = said_as end (plain_end o end tells) given noted (front_of Ended tt (letters_of given) noted h)
agrees_said Ran o end given noted tells h = said_as end (subst NoneSaid (sym tells) tt) given noted (front_of Ran tt (letters_of given) noted h)
agrees_said (Illegal number) o end given noted tells h = said_as end (subst NoneSaid (sym tells) tt) given noted (front_of (Illegal number) tt (letters_of given) noted h)
agrees_said BudgetSpent o end given noted tells h = said_as end (subst NoneSaid (sym tells) tt) given noted (front_of BudgetSpent tt (letters_of given) noted h)
agrees_said NoMemory o end given noted tells h = absurd tells
agrees_said (Differs number) o end (One old) noted tells h = absurd h
agrees_said (Differs number) o end (Two schedule) noted tells h = subst (λ (x : EndWords). SaidAs x (Two schedule) noted) (sym tells) h

pub replay_explained : (grows : EachRunGrows) (tree : PProgram) (code : Code) → Faithful tree code → (given : Given) (budget : ℕ) (m : MachineModel) (answer : Replayed) (schedule : ScheduleModel) →
    Replays code given budget schedule m answer → (lines : List (List ℕ)) (report : Report) → IsReportOf m answer lines 1 schedule report → IsSchedule schedule.runs schedule.letters →
    ListingText code lines → ExplainsReplay tree given budget report
unfolding explained
replay_explained grows tree code faithful given budget m answer schedule replays lines report is valid listed = record {
  explains = explained grows tree code faithful (given_entries given) budget m answer schedule replays.0 1 lines report is valid listed;
  left = replays.0.left;
  split = left_split grows tree code faithful (given_entries given) budget m answer schedule replays.0 1 lines report is valid listed;
  agrees = agrees_said answer (machine_end m) report.end given report.schedule.letters is.end
      (subst (λ (x : ScheduleModel). AgreeAs answer (letters_of given) x.letters) (sym is.performed) replays.1);
  leaves = left_said grows tree code faithful (given_entries given) budget m answer schedule replays.0 1 lines report is valid listed;
  tail = replays.0.tail;
  tails = refl;
  alone = tail_alone grows tree code faithful (given_entries given) budget m answer schedule replays.0 1 lines report is valid listed;
  goes = tail_goes grows tree code faithful (given_entries given) budget m answer schedule replays.0 1 lines report is valid listed;
  within = all_within grows tree code faithful (given_entries given) budget m answer schedule replays.0 1 lines report is valid listed;
}

-- ---- a run that can be told

ended_can : (m : MachineModel) (img : Image) (o : Option ImageEnd) → m.image ≡ img → image_end img ≡ o → image_end img ≢ None → CanBeTold Ended (machine_end m)
ended_can m img None there_is is some = absurd (some is)
ended_can m img (Some e) there_is is some =
    let there : machine_end m ≡ Some (end_shown e) = ap (λ o. machine_end_by o m) (ap image_end there_is ∙ is) in
    subst (CanBeTold Ended) (sym there) tt

limit_can : (code : Code) (m : MachineModel) (img : Image) (left : List ℕ) → m.image ≡ img → MayGo left img → ReplayAtLimit code left img m.limit → CanBeTold Ended (machine_end m)
limit_can code m img [] there_is goes at = absurd goes
limit_can code m img (p ∷ left) there_is goes at =
    let there : machine_end m ≡ limit_end (Some p) m.image.regs =
    ap (λ o. machine_end_by o m) (ap image_end there_is ∙ (may_parts img p goes).0) ∙ ap (λ o. limit_end o m.image.regs) at.1 in
    subst (CanBeTold Ended) (sym there) tt

pub can_be_told : (code : Code) (given : List ℕ) (budget : ℕ) (performed : List ℕ) (noted : List Letter) (m : MachineModel) (answer : Replayed) →
    ReplaysEntries code given budget performed noted m answer → answer ≢ NoMemory →
    CanBeTold answer (machine_end m)
can_be_told code given budget performed noted m Ended r some = by r.answers
  where
    by : ReplayAnswers code budget (sum r.run.counts + r.tail) performed r.left r.tail r.image m Ended → CanBeTold Ended (machine_end m)
    by (inl a) = ended_can m r.image (image_end r.image) r.stands refl a.2
    by (inr a) = limit_can code m r.image r.left r.stands a.1 a.2
can_be_told code given budget performed noted m Ran r some = tt
can_be_told code given budget performed noted m (Illegal number) r some = tt
can_be_told code given budget performed noted m BudgetSpent r some = tt
can_be_told code given budget performed noted m NoMemory r some = absurd (some refl)
can_be_told code given budget performed noted m (Differs number) r some = tt
