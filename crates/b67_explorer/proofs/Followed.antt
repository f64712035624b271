-- From a replay on the machine to the outcome that it comes to.
use Rattle.std.proofs.Common.{◌≡◌, ◌≢◌, refl, sym, ap, subst, ◌∙◌, ℕ, zero, suc, ◌+◌, ◌-◌, false, List, [], ◌∷◌, ◌++◌, reverse, Option, Some, None, inl, inr, arith}
use Rattle.std.specs.Prelude.{◌⊎◌, replicate, sum}
use Rattle.std.proofs.lemmas.List.{reverse-reverse}
use Rattle.std.proofs.lemmas.List.Sums.{sum_by-cons}
use Rattle.std.proofs.lemmas.Option.{same_Some}
use Rattle.b67_limits.specs.declared.TheConstants.{MOST_BUDGET}
use Rattle.b67_list.specs.Numbered.{numbered}
use Rattle.b67_deeds.specs.declared.Letter.{Letter}
use Rattle.algol_tree.specs.Plain.{PProgram}
use Rattle.algol_meaning.specs.World.{World}
use Rattle.b67_segment.specs.declared.code.Code.{Code}
use Rattle.b67_table.specs.Image.{Image}
use Rattle.b67_table.specs.Ending.{ImageEnd, image_end, may_act}
use Rattle.b67_table.specs.Ending as ending
use Rattle.b67_table.specs.Table.{length_in}
use Rattle.b67_table.specs.Runs.{Runs, Plains, stay, go, Tails, none, next}
use Rattle.b67_table.proofs.Cited.{may_parts}
use Rattle.b67_schedule.specs.declared.reading.Given.{Given}
use Rattle.b67_schedule.specs.declared.reading.Given.TheVariants.{One, Two}
use Rattle.b67_schedule.specs.Giving.{given_entries}
use Rattle.b67_schedule.specs.Schedules.{entries, IsSchedule, ScheduleModel}
use Rattle.b67_report.specs.declared.EndWords.{EndWords}
use Rattle.b67_report.specs.declared.EndWords.TheVariants as words
use Rattle.b67_report.specs.declared.Report.{Report}
use Rattle.b67_machine.specs.declared.reads.End.{End}
use Rattle.b67_machine.specs.declared.reads.End.TheVariants as machine_ends
use Rattle.b67_machine.specs.declared.replay.Replayed.{Replayed}
use Rattle.b67_machine.specs.declared.replay.Replayed.TheVariants.{Ended, Ran, Illegal, BudgetSpent, NoMemory, Differs}
use Rattle.b67_machine.specs.Kept.{MachineModel}
use Rattle.b67_machine.specs.Reads.{end_shown, machine_end_by, limit_end, machine_end}
use Rattle.b67_machine.specs.Replaying.{tails_of, MayGo, ReplayAtLimit, IsIllegal, ReplayAnswers, is_lacking, NoneDiffers, AgreeAs, letters_of, ReplaysEntries, Replays}
use Rattle.b67_machine.proofs.Entering.{one_of_able}
use Rattle.b67_faithful.specs.Faithful.{Faithful}
use Rattle.b67_listing.specs.Listings.{ListingText}
use Rattle.algol_laws.proofs.Growing.{each_grows}
use Rattle.b67_explain.specs.Telling.{words_of_end, EndTells, IsReportOf}
use Rattle.b67_explain.proofs.Explained.{replay_explained}
use Rattle.b67_explain.proofs.Tailed.{sum_zeros}
use Rattle.b67_outcomes.specs.Entering.{HistoryLeadsTo, Stops}
use Rattle.b67_told.specs.declared.Outcome.{Outcome}
use Rattle.b67_told.specs.Telling.{IsOfOne}
use Rattle.b67_teller.specs.Following.{IsLong, NextGoes, NextIsIllegal, EndsBy, Followed}
use Rattle.b67_outcomes_all.specs.Outcomes.{IsReplayed}
use Rattle.b67_stands.proofs.Showing.{shows_is}

-- ---- tails

no_plains : (code : Code) (p k : ℕ) (a b : Image) → Plains code p a k b → k ≡ 0 → a ≡ b
no_plains code p k a b stay e = refl
no_plains code p k a b (go {n = n} h t rest) e = absurd (omega (arith, e))

-- no operators are performed
no_tails : (code : Code) (q : ℕ) (a b : Image) (ts : List ℕ) → Tails code q a ts b → sum ts ≡ 0 → a ≡ b
no_tails code q a b ts none e = refl
no_tails code q a b ts (next {n = n} {b = c} {tails = rest} plains after) e =
    let s = sum_by-cons (λ (x : ℕ). x) n rest in
    no_plains code q n a c plains (omega (arith, s, e)) ∙ no_tails code (q + 1) c b rest after (omega (arith, s, e))

-- the operators of one process
one_tail : (code : Code) (k q n : ℕ) (a b : Image) → Tails code q a (replicate k 0 ++ n ∷ []) b → Plains code (q + k) a n b
one_tail code zero q n a b (next plains none) =
    let same : q ≡ q + 0 = omega arith in subst (λ (p : ℕ). Plains code p a n b) same plains
one_tail code (suc k) q n a b (next {b = c} plains after) =
    let same : q + 1 + k ≡ q + suc k = omega arith in
    subst (λ (p : ℕ). Plains code p a n b) same
    (subst (λ (x : Image). Plains code (q + 1 + k) x n b) (sym (no_plains code q 0 a c plains refl)) (one_tail code k (q + 1) n c b after))

-- ---- ends

not_lacking : (answer : Replayed) (o : Option End) (end : EndWords) → EndTells answer o end → is_lacking answer ≡ false
not_lacking Ended o end tells = refl
not_lacking Ran o end tells = refl
not_lacking (Illegal number) o end tells = refl
not_lacking BudgetSpent o end tells = refl
not_lacking NoMemory o end tells = absurd tells
not_lacking (Differs number) o end tells = refl

-- ---- a replay

module _ (tree : PProgram) (code : Code) (f : Faithful tree code) (given : List ℕ) (m : MachineModel) (answer : Replayed) (done : List ℕ) (noted : List Letter)
    (r : ReplaysEntries code given MOST_BUDGET done noted m answer) (end : EndWords) (tells : EndTells answer (machine_end m) end) where
  abbrev before : Image
  before = r.run.before_tails

  same : m.image ≡ r.image
  same = shows_is (is_lacking answer) r.image m.image (not_lacking answer (machine_end m) end tells) r.stands

  run_of : Runs code (reverse done) r.run.counts before
  run_of = subst (λ (h : List ℕ). Runs code h r.run.counts before) (sym (ap reverse r.run.order ∙ reverse-reverse r.run.history)) r.run.runs

  leads : HistoryLeadsTo code (reverse done) before
  leads = (r.run.counts, run_of)

  output_same : r.image.output ≡ before.output
  output_same =
      let a = f.follows.legal done (tails_of r.left r.tail) r.image r.run in
      let b =
      f.follows.legal done [] before
      (record { history = r.run.history; counts = r.run.counts; before_tails = before; order = r.run.order; runs = r.run.runs; after = none }) in
      let one : a.world ≡ b.world = same_Some a.world b.world (sym a.is ∙ b.is) in
      a.shows.output ∙ ap (λ (w : World). w.output) one ∙ sym b.shows.output

  -- where no entries are left
  none_left : r.left ≡ [] → before ≡ r.image
  none_left e = no_tails code 1 before r.image [] (subst (λ (l : List ℕ). Tails code 1 before (tails_of l r.tail) r.image) e r.run.after) refl

  ended_words : (e : ImageEnd) → r.left ≡ [] → image_end before ≡ Some e → EndsBy code given r.left before (words_of_end (end_shown e))
  ended_words ending.finished left there = (left, there)
  ended_words (ending.faulted kind p) left there = (left, there)
  ended_words ending.all_waiting left there = (left, there)

  at_end : (o : Option ImageEnd) → image_end r.image ≡ o → o ≢ None → r.left ≡ [] → EndTells Ended (machine_end m) end → EndsBy code given r.left before end
  at_end None is some left told = absurd (some refl)
  at_end (Some e) is some left told =
      let there : machine_end m ≡ Some (end_shown e) = ap (λ (o : Option ImageEnd). machine_end_by o m) (ap image_end same ∙ is) in
      let said : end ≡ words_of_end (end_shown e) = subst (λ (o : Option End). EndTells Ended o end) there told in
      subst (λ (x : EndWords). EndsBy code given r.left before x) (sym said) (ended_words e left (ap image_end (none_left left) ∙ is))

  at_limit : (left : List ℕ) → Tails code 1 before (tails_of left r.tail) r.image → MayGo left r.image → ReplayAtLimit code left r.image m.limit → EndTells Ended (machine_end m) end
      → EndsBy code given left before end
  at_limit [] after goes at told = absurd goes
  at_limit (p ∷ left) after goes at told =
      let acts = may_parts r.image p goes in
      let one = one_of_able r.image.states p acts.1 in
      let there : machine_end m ≡ Some (machine_ends.StackLimit p (length_in (numbered m.image.regs p))) =
      ap (λ (o : Option ImageEnd). machine_end_by o m) (ap image_end same ∙ acts.0) ∙ ap (λ (o : Option ℕ). limit_end o m.image.regs) at.1 in
      let said : end ≡ words.StackLimit p (length_in (numbered m.image.regs p)) = subst (λ (o : Option End). EndTells Ended o end) there told in
      let numbers : 1 + (p - 1) ≡ p = omega (arith, one) in
      let stops : Stops code p before r.image =
      record { count = r.tail; plains = subst (λ (q : ℕ). Plains code q before r.tail r.image) numbers (one_tail code (p - 1) 1 r.tail before r.image after); at_limit = at.0 } in
      subst (λ (x : EndWords). EndsBy code given (p ∷ left) before x) (sym said) (refl, r.image, stops, ap (λ (i : Image). length_in (numbered i.regs p)) same)

  forbidden : (left : List ℕ) → Tails code 1 before (tails_of left r.tail) r.image → r.tail ≡ 0 → IsIllegal left r.image → NextIsIllegal left before
  forbidden [] after e x = absurd x
  forbidden (p ∷ left) after e x =
      let here = no_tails code 1 before r.image (tails_of (p ∷ left) r.tail) after (sum_zeros (p - 1) r.tail ∙ e) in
      ap (λ (i : Image). may_act i p) here ∙ x

  -- the operators of the process of the next entry
  goes_on_by : (left : List ℕ) → Tails code 1 before (tails_of left r.tail) r.image → (r.tail ≡ 0) ⊎ MayGo left r.image → NextGoes code left before r.tail
  goes_on_by [] after (inl e) = e
  goes_on_by [] after (inr goes) = absurd goes
  goes_on_by (p ∷ left) after (inl e) = (before, subst (λ (n : ℕ). Plains code p before n before) (sym e) stay)
  goes_on_by (p ∷ left) after (inr goes) =
      let acts = may_parts r.image p goes in
      let one = one_of_able r.image.states p acts.1 in
      let numbers : 1 + (p - 1) ≡ p = omega (arith, one) in
      (r.image, subst (λ (q : ℕ). Plains code q before r.tail r.image) numbers (one_tail code (p - 1) 1 r.tail before r.image after))

  ends_as : (a : Replayed) → ReplayAnswers code MOST_BUDGET (sum r.run.counts + r.tail) done r.left r.tail r.image m a → EndTells a (machine_end m) end → NoneDiffers a
      → EndsBy code given r.left before end
  ends_as Ended (inl x) told n = at_end (image_end r.image) refl x.2 x.1 told
  ends_as Ended (inr x) told n = at_limit r.left r.run.after x.1 x.2 told
  ends_as Ran x told n =
      subst (λ (y : EndWords). EndsBy code given r.left before y) (sym told) (x.1, ap image_end (none_left x.1) ∙ x.2)
  ends_as (Illegal number) x told n = subst (λ (y : EndWords). EndsBy code given r.left before y) (sym told) (forbidden r.left r.run.after x.0 x.2)
  ends_as BudgetSpent x told n =
      let spent = x.1 in
      let long : IsLong code given =
      record {
        done = done;
        left = r.left;
        split = r.split;
        counts = r.run.counts;
        image = before;
        run = run_of;
        tail = r.tail;
        goes = goes_on_by r.left r.run.after x.2;
        long = omega (arith, spent);
      } in
      subst (λ (y : EndWords). EndsBy code given r.left before y) (sym told) long
  ends_as NoMemory x told n = absurd told
  ends_as (Differs number) x told n = absurd n

  pub follows : NoneDiffers answer → (o : Outcome) → o.output ≡ m.image.output → o.end ≡ end → Followed code given o
  follows n o output ends =
      record {
        done = done;
        left = r.left;
        split = r.split;
        image = before;
        leads = leads;
        output = output ∙ ap (λ (i : Image). i.output) same ∙ output_same;
        ends_by = subst (λ (y : EndWords). EndsBy code given r.left before y) (sym ends) (ends_as answer r.answers tells n);
      }

none_differs : (answer : Replayed) (given : Given) (noted : List Letter) → IsOfOne given → AgreeAs answer (letters_of given) noted → NoneDiffers answer
none_differs answer (One old) noted version agrees = agrees
none_differs answer (Two schedule) noted version agrees = absurd version

pub followed : (tree : PProgram) (code : Code) → Faithful tree code → (given : Given) (m : MachineModel) (answer : Replayed) (schedule : ScheduleModel) → IsOfOne given
    → Replays code given MOST_BUDGET schedule m answer → (lines : List (List ℕ)) (report : Report) → IsReportOf m answer lines 1 schedule report
    → (o : Outcome) → o.output ≡ report.output → o.end ≡ report.end → Followed code (given_entries given) o
followed tree code f given m answer schedule version replays lines report is o output ends =
    follows tree code f (given_entries given) m answer (entries schedule.runs) schedule.letters replays.0 report.end is.end
    (none_differs answer given schedule.letters version replays.1) o (output ∙ is.output) ends

pub is_replayed : (tree : PProgram) (code : Code) → Faithful tree code → (given : Given) (m : MachineModel) (answer : Replayed) (schedule : ScheduleModel)
    → Replays code given MOST_BUDGET schedule m answer → (lines : List (List ℕ)) (report : Report) → IsReportOf m answer lines 1 schedule report
    → IsSchedule schedule.runs schedule.letters → ListingText code lines → (o : Outcome) → o.output ≡ report.output → o.end ≡ report.end → IsReplayed tree given o
is_replayed tree code f given m answer schedule replays lines report is valid listed o output ends =
    record {
      report = report;
      explains = replay_explained each_grows tree code f given MOST_BUDGET m answer schedule replays lines report is valid listed;
      output = sym output;
      ends = sym ends;
    }
