-- The report of a run by several processors explains every source to which its code is faithful.
use Rattle.std.specs.Prelude.{◌≢◌, sum, nat_le}
use Rattle.std.proofs.Common.{◌≡◌, ◌⊎◌, inl, inr, ℕ, zero, suc, ◌+◌, ◌*◌, ◌≤◌, Bool, true, false, List, [], ◌∷◌, length, Option, Some, None, refl, sym, ap, ◌∙◌, subst, arith}
use Rattle.std.specs.List.{All, AllByRecursion}
use Rattle.std.specs.Prelude.{slice_get}
use Rattle.std.proofs.lemmas.Bool.{leb-true}
use Rattle.std.proofs.lemmas.List.Sums.{sum_by-cons}
use Rattle.algol_tree.specs.Plain.{PProgram}
use Rattle.algol_tree.specs.Scopes.{scopes_of}
use Rattle.algol_meaning.specs.World.{is_able, process_at}
use Rattle.algol_meaning.specs.Run.{run, start, end_of}
use Rattle.algol_laws.specs.Kept.{EachRunGrows}
use Rattle.b67_schedule.specs.Schedules.{entries, IsSchedule, ScheduleModel}
use Rattle.b67_report.specs.Reading.{IsLine, IsReport}
use Rattle.b67_report.specs.declared.Report.{Report}
use Rattle.b67_report.specs.declared.EndWords.{EndWords}
use Rattle.b67_report.specs.declared.EndWords.TheVariants as words
use Rattle.b67_listing.specs.Listings.{ListingText}
use Rattle.b67_segment.specs.declared.code.Code.{Code}
use Rattle.b67_table.specs.Image.{Image}
use Rattle.b67_table.specs.Ending.{ImageEnd, image_end}
use Rattle.b67_table.specs.Runs.{TableRun, count_of}
use Rattle.b67_table.specs.Runs as table_runs
use Rattle.b67_table.proofs.Cited.{may_parts}
use Rattle.b67_action.specs.Able.{able_in}
use Rattle.b67_faithful.specs.Agreement.{WorldAgrees}
use Rattle.b67_faithful.specs.Agreement.{end_as}
use Rattle.b67_faithful.specs.Faithful.{Faithful, longest}
use Rattle.b67_machine.specs.declared.replay.Replayed.{Replayed}
use Rattle.b67_machine.specs.declared.replay.Replayed.TheVariants.{Ended, BudgetSpent, NoMemory}
use Rattle.b67_machine.specs.declared.reads.End.{End}
use Rattle.b67_machine.specs.declared.reads.End.TheVariants as ends_of
use Rattle.b67_machine.specs.Kept.{MachineModel, or_none, operators_counted}
use Rattle.b67_machine.specs.Letters.{AreLetters}
use Rattle.b67_machine.specs.Reads.{machine_end, end_shown, machine_end_by, limit_end}
use Rattle.b67_stands.specs.Tails.{at_place, tail_of}
use Rattle.b67_stands.specs.Running.{Running, run_ends, answer_by, answer_of}
use Rattle.b67_stands.specs.Stands.{Stands}
use Rattle.b67_stands.specs.Alone.{ByOne}
use Rattle.b67_stands.specs.Picked.{Pick}
use Rattle.b67_stands.specs.Shared.{Shared, ByProcessors}
use Rattle.b67_stands.specs.Ran.{HasRun, HasRunAlone, HasRunShared}
use Rattle.b67_stands.proofs.Showing.{shows_is}
use Rattle.b67_list.proofs.Answered.{no_limit}
use Rattle.b67_list.proofs.Numbers.{more_room}
use Rattle.b67_explain.proofs.Turning.{picked_runs_are_turns}
use Rattle.b67_explain.specs.Explaining.{EndIs, Explains, IsOwnEnd, ExplainsRun}
use Rattle.b67_explain.specs.Alone.{ExplainsAlone}
use Rattle.b67_explain.specs.Shared.{ExplainsShared}
use Rattle.b67_explain.specs.Telling.{words_of_end, CanBeTold, EndTells, AreOfFirst, IsReportOf}
use Rattle.b67_explain.proofs.Outputs.{run_writes}
use Rattle.b67_explain.proofs.Printed.{listing_fine, output_fine}
use Rattle.b67_explain.proofs.Naming.{IsOneOf, entries_are_there}
use Rattle.b67_explain.proofs.Summing.{from_on, from_on_sum, entries_by_process, sum_by_number}
use Rattle.b67_explain.proofs.Ending.{said_of}
use Rattle.b67_explain.proofs.Explained.{all_back, count_for_each}

-- ---- tails

at_counted : (tails : List ℕ) (k : ℕ) → at_place tails k ≡ or_none (slice_get tails k)
at_counted [] k = refl
at_counted (t ∷ ts) zero = refl
at_counted (t ∷ ts) (suc k) = at_counted ts k

tail_counted : (tails : List ℕ) (p : ℕ) → tail_of tails p ≡ operators_counted tails p
tail_counted tails zero = refl
tail_counted tails (suc k) = at_counted tails k

tails_from : (ys : List ℕ) (f : ℕ → ℕ) (p n : ℕ) → length ys ≤ n → ((k : ℕ) → f (p + k) ≡ at_place ys k) → from_on f p n ≡ sum ys
tails_from [] f p zero h g = refl
tails_from [] f p (suc n) h g =
    let first : f p ≡ 0 = ap f (omega arith) ∙ g 0 in
    let rest = tails_from [] f (p + 1) n (omega arith) (λ k. ap f (omega arith) ∙ g (suc k)) in
    omega (arith, first, rest)
tails_from (y ∷ ys) f p zero h g = absurd (omega (arith, h))
tails_from (y ∷ ys) f p (suc n) h g =
    let first : f p ≡ y = ap f (omega arith) ∙ g 0 in
    let rest = tails_from ys f (p + 1) n (omega (arith, h)) (λ k. ap f (omega arith) ∙ g (suc k)) in
    omega (arith, first, rest, sum_by-cons (λ (x : ℕ). x) y ys)

-- what all processes have in their tails
tails_sum : (tails : List ℕ) (n : ℕ) → length tails ≤ n → from_on (tail_of tails) 1 n ≡ sum tails
tails_sum tails n h = tails_from tails (tail_of tails) 1 n h (λ k. let same : 1 + k ≡ suc k = omega arith in ap (tail_of tails) same)

-- ---- the answer

not_lacking : (x : Bool) (o : Option End) (b : Bool) (answer : Replayed) → answer_by x o b ≡ Some answer → answer ≢ NoMemory → x ≡ false
not_lacking false o b answer e h = refl
not_lacking true o b answer e h = let same : answer ≡ NoMemory = cc in absurd (h same)

-- how the run ended
data EndedBy (o : Option End) (b : Bool) (answer : Replayed) : Type 0 where
  by_end : (e : End) → o ≡ Some e → answer ≡ Ended → EndedBy o b answer
  by_budget : o ≡ None → b ≡ true → answer ≡ BudgetSpent → EndedBy o b answer

ended_by : (o : Option End) (b : Bool) (answer : Replayed) → run_ends o b ≡ Some answer → EndedBy o b answer
ended_by (Some e) b answer h = let same : answer ≡ Ended = cc in by_end e refl same
ended_by None true answer h = let same : answer ≡ BudgetSpent = cc in by_budget refl refl same
ended_by None false answer h = cc

going : (x : Bool) (o : Option End) (b : Bool) (answer : Replayed) → x ≡ false → answer_by x o b ≡ Some answer → run_ends o b ≡ Some answer
going false o b answer e h = h
going true o b answer e h = cc

own_end : (e : End) → IsOwnEnd (words_of_end e)
own_end ends_of.Finished = tt
own_end (ends_of.Fault kind p) = tt
own_end ends_of.AllWaiting = tt
own_end (ends_of.StackLimit p w) = tt

limit_some : (o : Option ℕ) (m : MachineModel) (e : End) → limit_end o m.image.regs ≡ Some e → (p : ℕ) × (o ≡ Some p)
limit_some None m e h = cc
limit_some (Some p) m e h = (p, refl)

module _ (grows : EachRunGrows) (tree : PProgram) (code : Code) (faithful : Faithful tree code) (budget : ℕ) (s : Running) (stands : Stands code budget s) (answer : Replayed)
    (is_answer : answer_of budget s ≡ Some answer) (some : answer ≢ NoMemory) where
  abbrev agrees : WorldAgrees tree code (entries s.schedule.runs) stands.image
  agrees = faithful.follows.legal (entries s.schedule.runs) stands.tails stands.image stands.leads.run

  lacked_not : s.machine.lacked ≡ false
  lacked_not = not_lacking s.machine.lacked (machine_end s.machine) (nat_le budget s.spent) answer is_answer some

  same : s.machine.image ≡ stands.image
  same = shows_is s.machine.lacked stands.image s.machine.image lacked_not stands.shows

  ended_so : EndedBy (machine_end s.machine) (nat_le budget s.spent) answer
  ended_so =
      ended_by (machine_end s.machine) (nat_le budget s.spent) answer
      (going s.machine.lacked (machine_end s.machine) (nat_le budget s.spent) answer lacked_not is_answer)

  told_by : EndedBy (machine_end s.machine) (nat_le budget s.spent) answer → CanBeTold answer (machine_end s.machine)
  told_by (by_end e there a) = subst (λ (x : Replayed). CanBeTold x (machine_end s.machine)) (sym a) (subst (CanBeTold Ended) (sym there) tt)
  told_by (by_budget none full a) = subst (λ (x : Replayed). CanBeTold x (machine_end s.machine)) (sym a) tt

  -- so its report can be made
  pub ran_can_be_told : CanBeTold answer (machine_end s.machine)
  ran_can_be_told = told_by ended_so

  each_there : AllByRecursion (IsOneOf stands.image.started) (entries s.schedule.runs)
  unfolding run
  each_there =
      subst (λ (n : ℕ). AllByRecursion (IsOneOf n) (entries s.schedule.runs)) (sym agrees.shows.started)
      (entries_are_there (scopes_of tree) grows (entries s.schedule.runs) (start (scopes_of tree)) agrees.world agrees.is)

  history_there : AllByRecursion (IsOneOf stands.image.started) stands.leads.run.history
  history_there =
      all_back (IsOneOf stands.image.started) stands.leads.run.history (subst (AllByRecursion (IsOneOf stands.image.started)) stands.leads.run.order each_there)

  end_none : image_end stands.image ≡ None → end_of agrees.world ≡ None
  end_none e = agrees.shows.ends ∙ ap end_as e

  -- ---- the end

  at_machine_end : (e : End) (end : EndWords) → machine_end s.machine ≡ Some e → EndTells Ended (machine_end s.machine) end
      → EndIs tree code agrees.world stands.image budget s.spent end
  at_machine_end e end there tells = by (image_end stands.image) refl
    where
      by : (o : Option ImageEnd) → image_end stands.image ≡ o → EndIs tree code agrees.world stands.image budget s.spent end
      by (Some x) i =
          let some_end : image_end stands.image ≢ None = λ n. let no : Some x ≡ None = sym i ∙ n in cc in
          let none : s.machine.limit ≡ None = no_limit s.machine.limit (λ p h. some_end (may_parts stands.image p (stands.limit p h).0.may).0) in
          (said_of tree code agrees.world stands.image agrees.shows agrees.fits s.machine budget s.spent (length (entries s.schedule.runs)) (entries s.schedule.runs) [] 0 end same
          (stands.within some_end) Ended refl
          (inl (refl, refl, some_end, none)) tells).ended
      by None i =
          let limited : limit_end s.machine.limit s.machine.image.regs ≡ Some e =
          sym (ap (λ (o : Option ImageEnd). machine_end_by o s.machine) (ap image_end same ∙ i)) ∙ there in
          let l = limit_some s.machine.limit s.machine e limited in
          let at = stands.limit l.0 l.1 in
          (said_of tree code agrees.world stands.image agrees.shows agrees.fits s.machine budget s.spent (length (entries s.schedule.runs)) (entries s.schedule.runs) (l.0 ∷ []) 0 end same
          (omega (arith, at.1)) Ended refl
          (inr (at.1, at.0.may, (at.0.next, l.1))) tells).ended

  at_budget : (end : EndWords) → machine_end s.machine ≡ None → nat_le budget s.spent ≡ true → end ≡ words.BudgetSpent → EndIs tree code agrees.world stands.image budget s.spent end
  at_budget end none full tells =
      let image_none : image_end stands.image ≡ None = by_image (image_end s.machine.image) refl in
      subst (EndIs tree code agrees.world stands.image budget s.spent) (sym tells) (end_none image_none, leb-true budget s.spent full)
    where
      by_image : (o : Option ImageEnd) → image_end s.machine.image ≡ o → image_end stands.image ≡ None
      by_image None i = ap image_end (sym same) ∙ i
      by_image (Some x) i = let no : Some (end_shown x) ≡ None = sym (ap (λ (o : Option ImageEnd). machine_end_by o s.machine) i) ∙ none in cc

  ends_by : (end : EndWords) → EndedBy (machine_end s.machine) (nat_le budget s.spent) answer → EndTells answer (machine_end s.machine) end
      → EndIs tree code agrees.world stands.image budget s.spent end
  ends_by end (by_end e there a) tells = at_machine_end e end there (subst (λ (x : Replayed). EndTells x (machine_end s.machine) end) a tells)
  ends_by end (by_budget none full a) tells = at_budget end none full (subst (λ (x : Replayed). EndTells x (machine_end s.machine) end) a tells)

  own_by : (end : EndWords) → EndedBy (machine_end s.machine) (nat_le budget s.spent) answer → EndTells answer (machine_end s.machine) end → IsOwnEnd end
  own_by end (by_end e there a) tells =
      let said : end ≡ words_of_end e = subst (λ (o : Option End). EndTells Ended o end) there (subst (λ (x : Replayed). EndTells x (machine_end s.machine) end) a tells) in
      subst IsOwnEnd (sym said) (own_end e)
  own_by end (by_budget none full a) tells =
      let said : end ≡ words.BudgetSpent = subst (λ (x : Replayed). EndTells x (machine_end s.machine) end) a tells in subst IsOwnEnd (sym said) tt

  -- ---- the report

  module _ (processors : ℕ) (lines : List (List ℕ)) (report : Report) (is : IsReportOf s.machine answer lines processors s.schedule report)
      (valid : IsSchedule s.schedule.runs s.schedule.letters) (listed : ListingText code lines) where
    number_of : length report.operators ≡ stands.image.started
    number_of = is.operators.each ∙ ap (λ (i : Image). i.started) same

    abbrev own : ℕ → ℕ
    own p = count_of p stands.leads.run.history stands.leads.run.counts + tail_of stands.tails p

    count_is : (p : ℕ) → 1 ≤ p → p ≤ length report.operators → operators_counted report.operators p ≡ count_of p stands.leads.run.history stands.leads.run.counts + tail_of stands.tails p
    count_is p one most = is.operators.are p one most ∙ stands.counts p

    all_operators : sum report.operators ≡ sum stands.leads.run.counts + sum stands.tails
    all_operators =
        let n = stands.image.started in
        let by_number = sum_by_number own report.operators count_is in
        let by_length : from_on own 1 (length report.operators) ≡ from_on own 1 n = ap (from_on own 1) number_of in
        let both = from_on_sum (λ p. count_of p stands.leads.run.history stands.leads.run.counts) (tail_of stands.tails) n in
        let first = entries_by_process n stands.leads.run.history stands.leads.run.counts (count_for_each stands.leads.run.runs) history_there in
        let second = tails_sum stands.tails n stands.few in
        omega (arith, by_number, by_length, both, first, second)

    schedule_is : report.schedule.runs ≡ s.schedule.runs
    schedule_is = ap (λ (x : ScheduleModel). x.runs) is.performed

    entries_are : entries report.schedule.runs ≡ entries s.schedule.runs
    entries_are = ap entries schedule_is

    bounded_is : sum report.operators ≤ (length (entries report.schedule.runs) + length report.operators) * longest code.segments
    bounded_is =
        let few = faithful.few (entries s.schedule.runs) stands.tails stands.image stands.leads.run in
        let more = more_room (length (entries s.schedule.runs) + length stands.tails) (length (entries report.schedule.runs) + length report.operators) (longest code.segments)
        (omega (arith, stands.few, number_of, ap length entries_are)) in
        omega (arith, all_operators, few, more)

    spent_is : s.spent ≡ sum report.operators
    spent_is = stands.spends ∙ sym all_operators

    is_report : IsReport report
    is_report = record {
      listing = record {
        each = subst (All IsLine) (sym is.listing) (listing_fine code lines faithful.listable listed);
        few = is.sizes.listing;
      };
      output = record {
        each = subst (All IsLine) (sym (is.output ∙ ap (λ (i : Image). i.output) same)) (run_writes IsLine code (output_fine code faithful.listable) stands.leads.run);
        few = is.sizes.output;
      };
      end = is.sizes.end;
      operators = is.sizes.operators;
      acts = is.sizes.acts;
      schedule = subst (λ (x : ScheduleModel). IsSchedule x.runs x.letters) (sym is.performed) valid;
    }

    -- who has a tail is able in the world
    able_there : (p : ℕ) → (tail_of stands.tails p ≡ 0) ⊎ (able_in stands.image p ≡ true) → (operators_counted stands.tails p ≡ 0) ⊎ (is_able ((process_at agrees.world p).state) ≡ true)
    able_there p (inl e) = inl (sym (tail_counted stands.tails p) ∙ e)
    able_there p (inr e) = inr (agrees.shows.able p ∙ e)

    explained : Explains tree processors budget report
    explained = record {
      is_report = is_report;
      world = agrees.world;
      legal = ap (run tree) entries_are ∙ agrees.is;
      output = is.output ∙ ap (λ (i : Image). i.output) same ∙ agrees.shows.output;
      processors_are = is.acts.each;
      acts = is.acts.sum_is ∙ ap length (sym entries_are);
      code = code;
      listed = subst (ListingText code) (sym is.listing) listed;
      faithful = faithful;
      tails = stands.tails;
      image = stands.image;
      table_run = record {
        history = stands.leads.run.history;
        counts = stands.leads.run.counts;
        before_tails = stands.leads.run.before_tails;
        order = entries_are ∙ stands.leads.run.order;
        runs = stands.leads.run.runs;
        after = stands.leads.run.after;
      };
      letters = subst (λ (x : ScheduleModel). AreLetters stands.leads.run.runs x.letters) (sym is.performed) stands.letters;
      shown = sym (is.output ∙ ap (λ (i : Image). i.output) same);
      same_end = agrees.shows.ends;
      processes = number_of;
      counts = λ p one most.
          count_is p one (omega (arith, number_of, most))
          ∙ ap (λ n. count_of p stands.leads.run.history stands.leads.run.counts + n) (tail_counted stands.tails p);
      few = omega (arith, spent_is, stands.below);
      bounded = bounded_is;
      ended = subst (λ n. EndIs tree code agrees.world stands.image budget n report.end) spent_is (ends_by report.end ended_so is.end);
    }

    -- the whole of it
    pub run_explained : ExplainsRun tree processors budget report
    unfolding explained
    run_explained = record {
      explains = explained;
      own = own_by report.end ended_so is.end;
      able = λ p. able_there p (stands.able p);
    }

    -- and where one processor did all the work
    pub turns_explained : (pick : Pick) → ByOne code budget pick s → AreOfFirst processors (length (entries s.schedule.runs)) report.acts → ExplainsAlone tree pick processors budget report
    turns_explained pick one first =
        let run : TableRun code (entries report.schedule.runs) [] one.image =
        record { history = one.history; counts = one.counts; before_tails = one.image; order = entries_are ∙ one.order; runs = one.runs; after = table_runs.none } in
        record {
          explains = run_explained;
          turns = picked_runs_are_turns tree code pick (entries report.schedule.runs) [] one.image faithful run one.picked;
          within = omega (arith, spent_is, one.within);
          first = subst (λ (xs : List ℕ). AreOfFirst processors (length xs) report.acts) (sym entries_are) first;
        }

    -- and where processors shared it
    pub shares_explained : (pick : Pick) → Shared code budget pick processors report.acts s → ByProcessors processors s report.acts
        → ExplainsShared tree pick processors budget report
    shares_explained pick shared books = record {
      explains = run_explained;
      code = code;
      listed = subst (ListingText code) (sym is.listing) listed;
      plant = s;
      shared = shared;
      order = sym entries_are;
      books = books;
    }

-- ---- what a run left

module _ (grows : EachRunGrows) (tree : PProgram) (code : Code) (faithful : Faithful tree code) (budget : ℕ) (m : MachineModel) (schedule : ScheduleModel) (answer : Replayed) (some : answer ≢ NoMemory) where
  pub left_can_be_told : HasRun code budget m schedule answer → CanBeTold answer (machine_end m)
  left_can_be_told h =
      subst (λ (k : MachineModel). CanBeTold answer (machine_end k)) h.machine_is (ran_can_be_told grows tree code faithful budget h.plant h.stands answer h.answered some)

  module _ (processors : ℕ) (lines : List (List ℕ)) (report : Report) (is : IsReportOf m answer lines processors schedule report) (valid : IsSchedule schedule.runs schedule.letters)
      (listed : ListingText code lines) where
    is_of : (h : HasRun code budget m schedule answer) → IsReportOf h.plant.machine answer lines processors h.plant.schedule report
    is_of h =
        subst (λ (k : MachineModel). IsReportOf k answer lines processors h.plant.schedule report) (sym h.machine_is)
        (subst (λ (x : ScheduleModel). IsReportOf m answer lines processors x report) (sym h.schedule_is) is)

    valid_of : (h : HasRun code budget m schedule answer) → IsSchedule h.plant.schedule.runs h.plant.schedule.letters
    valid_of h = subst (λ (x : ScheduleModel). IsSchedule x.runs x.letters) (sym h.schedule_is) valid

    pub left_alone_explained : (pick : Pick) → HasRunAlone code budget pick m schedule answer → AreOfFirst processors (length (entries schedule.runs)) report.acts
        → ExplainsAlone tree pick processors budget report
    left_alone_explained pick h first =
        turns_explained grows tree code faithful budget h.has_run.plant h.has_run.stands answer h.has_run.answered some processors lines report (is_of h.has_run) (valid_of h.has_run) listed
        pick h.by_one (subst (λ (x : ScheduleModel). AreOfFirst processors (length (entries x.runs)) report.acts) (sym h.has_run.schedule_is) first)

    pub left_shared_explained : (pick : Pick) (acts : List ℕ) → report.acts ≡ acts → HasRunShared code budget pick processors m schedule answer acts
        → ExplainsShared tree pick processors budget report
    left_shared_explained pick acts same h =
        shares_explained grows tree code faithful budget h.has_run.plant h.has_run.stands answer h.has_run.answered some processors lines report (is_of h.has_run) (valid_of h.has_run) listed
        pick (subst (λ (xs : List ℕ). Shared code budget pick processors xs h.has_run.plant) (sym same) h.shared)
        (subst (ByProcessors processors h.has_run.plant) (sym same) h.books)
