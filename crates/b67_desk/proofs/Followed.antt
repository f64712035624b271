-- From what is given of a schedule to the answer.
use Rattle.std.proofs.Common.{◌≡◌, sym, subst, ℕ, List, Option, Some, None, Result, Ok, Err}
use Rattle.std.specs.Prelude.{IfOk}
use Rattle.std.specs.declared.alloc.AllocError.{AllocError}
use Rattle.algol_tree.specs.Plain.{PProgram}
use Rattle.b67_schedule.specs.declared.reading.Given.{Given}
use Rattle.b67_schedule.specs.declared.reading.Given.TheVariants.{One, Two}
use Rattle.b67_schedule.specs.Giving.{HasRuns, IsTextOf, given_entries}
use Rattle.b67_report.specs.declared.Report.{Report}
use Rattle.b67_report.specs.Texts.{ReportText}
use Rattle.b67_explain.specs.Explaining.{ExplainsReplay}
use Rattle.b67_dump.specs.declared.Answer.{Answer as Seen}
use Rattle.b67_dump.specs.Dumps.{Dumps, dump_text}
use Rattle.b67_desk.specs.declared.asking.Answer.{Answer}
use Rattle.b67_desk.specs.declared.following.Course.TheVariants.{Told, Bad}
use Rattle.b67_desk.specs.declared.status.Status.{Status}
use Rattle.b67_desk.specs.Answers.{bad_schedule_text, IsBadSchedule, ScheduleIsGiven, OrBadSchedule, bad_schedule, followed, Replays, replayed}
use Rattle.b67_desk.specs.Calls.{IsBadAt, IsCourse, IsReportAnswer, IsSeenAnswer}
use Rattle.b67_desk.specs.Showing.{Dumped, dumped}

-- ---- the text beside a source

pub told_beside : (beside : Option (List ℕ)) (text : List ℕ) (input : ℕ) (given : Given) → beside ≡ Some text → IsTextOf given text → IsCourse beside input (Told given)
told_beside beside text input given same is = subst (λ (o : Option (List ℕ)). IsCourse o input (Told given)) (sym same) is

pub bad_beside : (beside kept : Option (List ℕ)) (input byte : ℕ) (a : Answer) → beside ≡ kept → IsBadSchedule kept input byte → IsBadAt byte a → IsCourse beside input (Bad a)
bad_beside beside kept input byte a same bad is = (byte, subst (λ (o : Option (List ℕ)). IsBadSchedule o input byte) (sym same) bad, is)

-- what a text tells has runs
runs_told : (given : Given) (text : List ℕ) → IsTextOf given text → HasRuns given
runs_told (One old) text is = is.0
runs_told (Two schedule) text is = is.0

pub has_runs : (beside : Option (List ℕ)) (given : Given) → ScheduleIsGiven beside given → HasRuns given
has_runs None given is = absurd is
has_runs (Some text) given is = runs_told given text is

module _ (beside : Option (List ℕ)) (input : ℕ) (Its : Given → List ℕ → Status → Type 0) where
  pub told_answered : (given : Given) (result : Result Answer AllocError) → ScheduleIsGiven beside given → IfOk result (λ a. Its given a.text.items a.status) →
      IfOk result (λ a. OrBadSchedule beside input Its a.text.items a.status)
  told_answered given (Ok a) told is = followed given a.text.items a.status told is
  told_answered given (Err e) told is = is

  pub bad_answered : (a : Answer) → IsCourse beside input (Bad a) → OrBadSchedule beside input Its a.text.items a.status
  bad_answered a (byte, bad, is) =
      subst (λ (t : List ℕ). OrBadSchedule beside input Its t a.status) (sym is.text)
      (subst (λ (s : Status). OrBadSchedule beside input Its (bad_schedule_text byte) s) (sym is.status) (bad_schedule byte bad))

-- ---- what answers the schedule

replayed_is : (budget : ℕ) (tree : PProgram) (given : Given) (report : Report) (a : Answer) → ExplainsReplay tree given budget report → IsReportAnswer report a →
    Replays budget tree given a.text.items a.status
replayed_is budget tree given report a explains is =
    subst (λ (t : List ℕ). Replays budget tree given t a.status) (sym is.text)
    (subst (λ (s : Status). Replays budget tree given (ReportText report) s) (sym is.status) (replayed report explains))

pub replayed_answered : (budget : ℕ) (tree : PProgram) (given : Given) (report : Report) (result : Result Answer AllocError) → ExplainsReplay tree given budget report →
    IfOk result (IsReportAnswer report) → IfOk result (λ a. Replays budget tree given a.text.items a.status)
replayed_answered budget tree given report (Ok a) explains is = replayed_is budget tree given report a explains is
replayed_answered budget tree given report (Err e) explains is = is

seen_is : (entries : ℕ) (tree : PProgram) (given : Given) (seen : Seen) (a : Answer) → Dumps tree (given_entries given) entries seen → IsSeenAnswer seen a →
    Dumped entries tree given a.text.items a.status
seen_is entries tree given seen a dumps is =
    subst (λ (t : List ℕ). Dumped entries tree given t a.status) (sym is.text)
    (subst (λ (s : Status). Dumped entries tree given (dump_text seen) s) (sym is.status) (dumped seen dumps))

pub seen_answered : (entries : ℕ) (tree : PProgram) (given : Given) (seen : Seen) (result : Result Answer AllocError) → Dumps tree (given_entries given) entries seen →
    IfOk result (IsSeenAnswer seen) → IfOk result (λ a. Dumped entries tree given a.text.items a.status)
seen_answered entries tree given seen (Ok a) dumps is = seen_is entries tree given seen a dumps is
seen_answered entries tree given seen (Err e) dumps is = is
