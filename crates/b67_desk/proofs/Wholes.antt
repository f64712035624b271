-- A replay whose end is that of a whole schedule has performed all of it.
use Rattle.std.proofs.Common.{arith, ◌≡◌, inl, inr, ap, sym, ◌∙◌, subst, ℕ, ◌+◌, ◌≤◌, List, [], ◌∷◌, ◌++◌, Option, Some, Result, Ok, Err}
use Rattle.std.specs.Prelude.{IfOk, sum}
use Rattle.std.proofs.lemmas.List.{append-nil}
use Rattle.std.specs.declared.alloc.AllocError.{AllocError}
use Rattle.b67_limits.specs.declared.TheConstants.{MOST_BUDGET}
use Rattle.b67_deeds.specs.declared.Letter.{Letter}
use Rattle.b67_schedule.specs.declared.reading.Given.{Given}
use Rattle.b67_schedule.specs.Giving.{given_entries}
use Rattle.b67_schedule.specs.Schedules.{entries, ScheduleModel}
use Rattle.b67_report.specs.declared.Report.{Report}
use Rattle.b67_report.specs.declared.EndWords.{EndWords}
use Rattle.b67_listing.specs.Listings.{ListingText}
use Rattle.b67_segment.specs.declared.code.Code.{Code}
use Rattle.b67_table.specs.Image.{Image}
use Rattle.b67_table.specs.Ending.{image_end}
use Rattle.b67_table.specs.Runs.{TableRun}
use Rattle.b67_machine.specs.declared.replay.Replayed.{Replayed}
use Rattle.b67_machine.specs.declared.replay.Replayed.TheVariants.{Ended, Ran, Illegal, BudgetSpent, NoMemory, Differs}
use Rattle.b67_machine.specs.declared.reads.End.{End}
use Rattle.b67_machine.specs.Kept.{MachineModel}
use Rattle.b67_machine.specs.Reads.{machine_end, machine_end_by, limit_end}
use Rattle.b67_machine.specs.Replaying.{Replays, ReplaysEntries, ReplayAnswers, MayGo, ReplayAtLimit, tails_of}
use Rattle.b67_explain.specs.Telling.{EndTells}
use Rattle.b67_console.specs.Telling.{RunsWhole}
use Rattle.b67_explorer.proofs.Fitting.{goes_there}
use Rattle.b67_desk.specs.Calls.{ReportIsLeft}
use Rattle.b67_desk.specs.Commanded.{IsPerformed}
use Rattle.b67_desk.specs.Consoling.{IsWholeSchedule}

-- nothing is left, and nothing was performed of an entry after them
record AllDone (left : List ℕ) (tail : ℕ) : Type 0 where
  none : left ≡ []
  quiet : tail ≡ 0

-- the end that is the stack limit is not that of a whole schedule
limit_told : (m : MachineModel) (p : ℕ) (end : EndWords) → machine_end m ≡ limit_end (Some p) m.image.regs → EndTells Ended (machine_end m) end → IsWholeSchedule end → ⊥
limit_told m p end at tells whole =
    let told : EndTells Ended (limit_end (Some p) m.image.regs) end = subst (λ (o : Option End). EndTells Ended o end) at tells in
    subst IsWholeSchedule told whole

limit_not_whole : (code : Code) (m : MachineModel) (img : Image) (left : List ℕ) (end : EndWords) → m.image ≡ img → MayGo left img → ReplayAtLimit code left img m.limit →
    EndTells Ended (machine_end m) end → IsWholeSchedule end → ⊥
limit_not_whole code m img [] end there goes at tells whole = goes
limit_not_whole code m img (p ∷ left) end there goes at tells whole =
    limit_told m p end (ap (λ o. machine_end_by o m) (ap image_end there ∙ goes_there img p goes) ∙ ap (λ o. limit_end o m.image.regs) at.1) tells whole

all_done : (code : Code) (given : List ℕ) (budget : ℕ) (done : List ℕ) (noted : List Letter) (m : MachineModel) (answer : Replayed) (end : EndWords)
    (r : ReplaysEntries code given budget done noted m answer) → EndTells answer (machine_end m) end → IsWholeSchedule end → AllDone r.left r.tail
all_done code given budget done noted m Ended end r tells whole = by r.answers
  where
    by : ReplayAnswers code budget (sum r.run.counts + r.tail) done r.left r.tail r.image m Ended → AllDone r.left r.tail
    by (inl a) = record { none = a.1; quiet = a.0 }
    by (inr a) = absurd (limit_not_whole code m r.image r.left end r.stands a.1 a.2 tells whole)
all_done code given budget done noted m Ran end r tells whole = record { none = r.answers.1; quiet = r.answers.0 }
all_done code given budget done noted m (Illegal number) end r tells whole = absurd (subst IsWholeSchedule tells whole)
all_done code given budget done noted m BudgetSpent end r tells whole = absurd (subst IsWholeSchedule tells whole)
all_done code given budget done noted m NoMemory end r tells whole = absurd tells
all_done code given budget done noted m (Differs number) end r tells whole = absurd (subst IsWholeSchedule tells whole)

-- where all is performed, the entries that are given have a run under the operator table
run_of_all : (code : Code) (given : List ℕ) (done left : List ℕ) (tail : ℕ) (image : Image) (run : TableRun code done (tails_of left tail) image) → given ≡ done ++ left → AllDone left tail →
    sum run.counts + tail ≤ MOST_BUDGET → RunsWhole code given
run_of_all code given done [] tail image run split all within =
    let same : given ≡ done = split ∙ append-nil done in
    record {
      image = image;
      run = record { history = run.history; counts = run.counts; before_tails = run.before_tails; order = same ∙ run.order; runs = run.runs; after = run.after };
      few = omega (arith, within);
    }
run_of_all code given done (p ∷ left) tail image run split all within = let wrong : p ∷ left ≡ [] = all.none in cc

pub whole_is_performed : (code : Code) (given : Given) (budget : ℕ) (m : MachineModel) (answer : Replayed) (schedule : ScheduleModel) → Replays code given budget schedule m answer → budget ≤ MOST_BUDGET →
    (lines : List (List ℕ)) (result : Result Report AllocError) → IfOk result (ReportIsLeft m answer lines 1 schedule) → ListingText code lines →
    IfOk result (λ report. IsWholeSchedule report.end → IsPerformed code given report)
whole_is_performed code given budget m answer schedule replays few lines (Ok report) left listed = λ whole.
    let r = replays.0 in
    let all = all_done code (given_entries given) budget (entries schedule.runs) schedule.letters m answer report.end r left.is.end whole in
    record {
      listed = subst (ListingText code) (sym left.is.listing) listed;
      runs = run_of_all code (given_entries given) (entries schedule.runs) r.left r.tail r.image r.run r.split all (omega (arith, r.within, few));
    }
whole_is_performed code given budget m answer schedule replays few lines (Err e) left listed = left
