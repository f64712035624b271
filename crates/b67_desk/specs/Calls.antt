-- What the parts of the top call promise one another.
use Rattle.std.specs.Prelude.{◌≡◌, ◌≢◌, ◌⊎◌, ℕ, ◌<◌, ◌≤◌, List, length, Option, Some, None, IfSome, Result, Ok, Err}
use Rattle.std.specs.declared.alloc.Global.{Global}
use Rattle.std.specs.declared.vec.Vec.{Vec}
use Rattle.std.specs.Io.KnownBytes.{IsAtEnd}
use Rattle.std.specs.declared.alloc.AllocError.{AllocError}
use Rattle.algol_tree.specs.declared.TheConstants.{MOST_SOURCE_BYTES}
use Rattle.algol_tree.specs.declared.refusal.Code.{Code as SourceCode}
use Rattle.algol_tree.specs.Image.{program as plain}
use Rattle.algol_tree.specs.Plain.{PProgram}
use Rattle.algol_tree.specs.declared.token.Spot.{Spot}
use Rattle.b67_io.specs.Faults.{Rose}
use Rattle.b67_limits.specs.declared.TheConstants.{MOST_BUDGET, MOST_PROCESSORS}
use Rattle.b67_words.specs.declared.TheConstants.{MOST_STATES}
use Rattle.b67_words.specs.declared.Words.{Words}
use Rattle.b67_words.specs.declared.Task.TheVariants.{Run, Replay, Outcomes}
use Rattle.b67_words.specs.declared.Words.TheVariants.{OnSource, Exec}
use Rattle.b67_words.specs.declared.BadWords.{BadWords}
use Rattle.b67_words.specs.declared.BadWords.TheVariants as broken
use Rattle.b67_words.specs.declared.UsageKind.{UsageKind}
use Rattle.b67_report.specs.declared.Report.{Report}
use Rattle.b67_report.specs.Texts.{ReportText}
use Rattle.b67_schedule.specs.Schedules.{IsSchedule, ScheduleModel}
use Rattle.b67_machine.specs.Kept.{MachineModel}
use Rattle.b67_machine.specs.declared.replay.Replayed.{Replayed}
use Rattle.b67_machine.specs.declared.replay.Replayed.TheVariants.{NoMemory}
use Rattle.b67_faithful.specs.Faithful.{Faithful}
use Rattle.b67_explain.specs.Telling.{IsReportOf}
use Rattle.b67_dump.specs.declared.Answer.{Answer as Seen}
use Rattle.b67_dump.specs.Dumps.{dump_text}
use Rattle.b67_desk.specs.declared.asking.Answer.{Answer}
use Rattle.b67_desk.specs.declared.asking.Unanswered.{Unanswered}
use Rattle.b67_desk.specs.declared.asking.Unanswered.TheVariants as why
use Rattle.b67_desk.specs.declared.asking.Job.{Job}
use Rattle.b67_desk.specs.declared.asking.Asked.{Asked}
use Rattle.b67_desk.specs.declared.asking.Asked.TheVariants as asked
use Rattle.b67_desk.specs.declared.asking.Found.{Found}
use Rattle.b67_desk.specs.declared.asking.Found.TheVariants as found
use Rattle.b67_desk.specs.declared.following.Course.{Course}
use Rattle.b67_desk.specs.declared.following.Course.TheVariants as course
use Rattle.b67_desk.specs.declared.status.Code.{Code as RefusalCode}
use Rattle.b67_desk.specs.declared.status.Code.TheVariants.{OfSource}
use Rattle.b67_desk.specs.declared.status.Status.{Status}
use Rattle.b67_desk.specs.declared.status.Status.TheVariants as statuses
use Rattle.b67_desk.specs.Answers.{usage_text, refused_text, too_long_text, bad_schedule_text, trial_text, Workers, ExplainsBy, IsBadSchedule, ScheduleIsGiven, IsRefusedAt, IsSourceOf, ReadsInput, AnswersSource, AnswersCommand, Answers, Reading, Untouched, ReadsIfAsked, Unreadable}
use Rattle.b67_desk.specs.Ends.{status_of}
use Rattle.b67_desk.specs.Showing.{status_shown}

-- ---- refusals

-- the refusal of a text at a place
pub record IsRefusal (place : Spot) (code : RefusalCode) (a : Answer) : Type 0 where
  pub text : a.text.items ≡ refused_text place code
  pub status : a.status ≡ statuses.Refused place code

-- the refusal of a text that is too long
pub record IsTooLong (a : Answer) : Type 0 where
  pub text : a.text.items ≡ too_long_text
  pub status : a.status ≡ statuses.TooLong

-- ---- what is read

-- what an input of at most so many bytes is read to: all that it had left, or nothing, since that is more; or it failed, or memory ran out
abbrev pub InputRead : ℕ → Reading → Result (Option (Vec ℕ Global)) Unanswered → Type 0
InputRead most r (Ok (Some bytes)) = (length bytes.items ≤ most) × IfSome r.left (λ all. bytes.items ≡ all) × IsAtEnd r.left_after
InputRead most r (Ok None) = IfSome r.left (λ bytes. most < length bytes)
InputRead most r (Err why.ReadFault) = Rose r.faults r.faults_after
InputRead most r (Err why.NoMemory) = Unit {0}

-- what a source is found to be: accepted, and then this is its only tree; or it is too long, or refused, and then this is the answer
abbrev pub SourceIsFound : List ℕ → Found → Type 0
SourceIsFound source (found.Accepted checked) = (length source ≤ MOST_SOURCE_BYTES) × IsSourceOf source (plain checked.program)
SourceIsFound source (found.Refused a) =
    ((MOST_SOURCE_BYTES < length source) × IsTooLong a)
    ⊎ ((length source ≤ MOST_SOURCE_BYTES) × (place : Spot) × (code : SourceCode) × IsRefusedAt source place code × IsRefusal place (OfSource code) a)

-- ---- what is asked for

-- a run that can be made: of a code that is that of a source, on as many processors and within such a budget as there may be
pub record CanBeMade (job : Job) : Type 0 where
  pub faithful : (tree : PProgram) × Faithful tree job.code
  pub processors : (1 ≤ job.processors) × (job.processors ≤ MOST_PROCESSORS)
  pub budget : (1 ≤ job.budget) × (job.budget ≤ MOST_BUDGET)

-- the report of it explains a run of every source that the code is of
abbrev pub IsReported : Workers → Job → Report → Type 0
IsReported by job report = (tree : PProgram) → Faithful tree job.code → ExplainsBy (by job.processors) job.processors job.budget job.rule tree report

-- What is asked for is an answer, by whomever work is done. Or it is a run that can be made, and then each report of it is an answer, where
-- the work is done so.
abbrev pub Asks : (Workers → List ℕ → Status → Type 0) → Asked → Type 0
Asks Its (asked.Settled a) = (by : Workers) → Its by a.text.items a.status
Asks Its (asked.Run job) = CanBeMade job × ((by : Workers) (report : Report) → IsReported by job report → Its by (ReportText report) (status_of report.end))

-- an answer that is there is what is asked for
abbrev pub settled : Result Answer AllocError → Result Asked AllocError
settled (Ok a) = Ok (asked.Settled a)
settled (Err e) = Err e

-- what the source asks for, or it failed, or memory ran out
abbrev pub SourceAsked : Words → Reading → Result Asked Unanswered → Type 0
SourceAsked command r (Ok a) = Asks (λ by. AnswersSource by command r.left r.left_after) a
SourceAsked command r (Err why.ReadFault) = Rose r.faults r.faults_after
SourceAsked command r (Err why.NoMemory) = Unit {0}

-- What a command asks for, or its source failed, which it reads, or memory ran out. Where it reads none, the source is as it was.
abbrev pub CommandAsked : Words → Reading → Result Asked Unanswered → Type 0
CommandAsked command r (Ok a) = Asks (λ by. AnswersCommand by command r) a × (ReadsInput command ⊎ Untouched r)
CommandAsked command r (Err why.ReadFault) = ReadsInput command × Rose r.faults r.faults_after
CommandAsked command r (Err why.NoMemory) = ReadsInput command ⊎ Untouched r

-- what the call asks for, or its source failed, or memory ran out
abbrev pub CallAsked : List (List ℕ) → Reading → Result Asked Unanswered → Type 0
CallAsked words r (Ok a) = Asks (λ by. Answers by words r) a × ReadsIfAsked words r
CallAsked words r (Err why.ReadFault) = Unreadable words r
CallAsked words r (Err why.NoMemory) = ReadsIfAsked words r

-- the call is answered, or its source failed, or memory ran out
abbrev pub CallAnswered : Workers → List (List ℕ) → Reading → Result Answer Unanswered → Type 0
CallAnswered by words r (Ok a) = Answers by words r a.text.items a.status
CallAnswered by words r (Err why.ReadFault) = Unreadable words r
CallAnswered by words r (Err why.NoMemory) = ReadsIfAsked words r

-- ---- reports

-- the report of what a run has left, where memory did not lack
pub record ReportIsLeft (machine : MachineModel) (answer : Replayed) (lines : List (List ℕ)) (processors : ℕ) (schedule : ScheduleModel) (report : Report) : Type 0 where
  pub some : answer ≢ NoMemory
  pub valid : IsSchedule schedule.runs schedule.letters
  pub is : IsReportOf machine answer lines processors schedule report

-- ---- answers

-- the refusal of words that are no command, or memory ran out
abbrev pub IsUsage : BadWords → Result Asked Unanswered → Type 0
IsUsage bad (Ok (asked.Settled a)) =
    (word : ℕ) × (kind : UsageKind) × (bad ≡ broken.Usage word kind) × (a.text.items ≡ usage_text word kind) × (a.status ≡ statuses.Usage word kind)
IsUsage bad (Ok (asked.Run job)) = ⊥
IsUsage bad (Err why.ReadFault) = ⊥
IsUsage bad (Err why.NoMemory) = Unit {0}

-- what the numbers of the command are: some processors, and a budget from 1 to the greatest
abbrev pub InRange : Words → Type 0
InRange (OnSource (Run processors budget rule)) = (1 ≤ processors) × (processors ≤ MOST_PROCESSORS) × (1 ≤ budget) × (budget ≤ MOST_BUDGET)
InRange (OnSource (Replay budget)) = (1 ≤ budget) × (budget ≤ MOST_BUDGET)
InRange (OnSource (Outcomes n)) = (1 ≤ n) × (n ≤ MOST_STATES)
InRange (Exec budget) = (1 ≤ budget) × (budget ≤ MOST_BUDGET)
InRange command = Unit {0}

-- the refusal of a schedule text that is bad from a byte on
pub record IsBadAt (byte : ℕ) (a : Answer) : Type 0 where
  pub text : a.text.items ≡ bad_schedule_text byte
  pub status : a.status ≡ statuses.BadSchedule byte

-- what a text beside a source tells of a schedule; or it tells none, and then this is the refusal
abbrev pub IsCourse : Option (List ℕ) → ℕ → Course → Type 0
IsCourse beside input (course.Told given) = ScheduleIsGiven beside given
IsCourse beside input (course.Bad a) = (byte : ℕ) × IsBadSchedule beside input byte × IsBadAt byte a

-- the answer that shows what is seen of cells
pub record IsSeenAnswer (seen : Seen) (a : Answer) : Type 0 where
  pub text : a.text.items ≡ dump_text seen
  pub status : a.status ≡ status_shown seen

-- the answer that is a report
pub record IsReportAnswer (report : Report) (a : Answer) : Type 0 where
  pub text : a.text.items ≡ ReportText report
  pub status : a.status ≡ status_of report.end

-- the answer that tells the run of a source that was made, which has so many bytes
pub record IsTrialAnswer (bytes : ℕ) (report : Report) (a : Answer) : Type 0 where
  pub text : a.text.items ≡ trial_text bytes report
  pub status : a.status ≡ status_of report.end

-- the answer that is the report of a run, where the work is done so
pub record IsRunAnswer (by : Workers) (job : Job) (a : Answer) : Type 0 where
  pub report : Report
  pub reported : IsReported by job report
  pub told : IsReportAnswer report a
