-- What the parts of the top call that judge a report promise one another.
use Rattle.std.specs.Prelude.{◌≡◌, ℕ, ◌+◌, ◌-◌, ◌<◌, ◌≤◌, ◌^◌, List, length, Option, Some, None}
use Rattle.algol_tree.specs.Plain.{PProgram}
use Rattle.algol_meaning.specs.World.{World}
use Rattle.algol_meaning.specs.Run.{run}
use Rattle.b67_parts.specs.declared.TheConstants.{MOST_INPUT_BYTES}
use Rattle.b67_schedule.specs.Schedules.{entries}
use Rattle.b67_report.specs.declared.Report.{Report}
use Rattle.b67_judge.specs.declared.Verdict.{Verdict}
use Rattle.b67_judge.specs.declared.Verdict.TheVariants.{Just}
use Rattle.b67_judge.specs.Texts.{verdict_text}
use Rattle.b67_desk.specs.declared.asking.Answer.{Answer}
use Rattle.b67_desk.specs.declared.judging.Beside.{Beside}
use Rattle.b67_desk.specs.declared.judging.Beside.TheVariants.{Told, Bad}
use Rattle.b67_desk.specs.declared.status.Status.{Status}
use Rattle.b67_desk.specs.declared.status.Status.TheVariants as status
use Rattle.b67_desk.specs.Judging.{bad_report_text, IsBadReport, TellsReport, TellsRaces}

-- the text beside a source has no more bytes than an input
abbrev pub IsShortText : Option (List ℕ) → Type 0
IsShortText None = Unit {0}
IsShortText (Some text) = length text ≤ MOST_INPUT_BYTES

-- the report has as few lines of output and as few entries as can be judged
pub record IsFew (report : Report) : Type 0 where
  pub output : length report.output < 2 ^ 32 - 1
  pub entries : length (entries report.schedule.runs) + 1 < 2 ^ 32

-- the refusal of a report text that is bad from a byte on
pub record IsBadReportAt (byte : ℕ) (a : Answer) : Type 0 where
  pub text : a.text.items ≡ bad_report_text byte
  pub status : a.status ≡ status.BadReport byte

-- what stands beside a source: a report, or a text that is bad, which is refused
abbrev pub IsBeside : Option (List ℕ) → ℕ → Beside → Type 0
IsBeside beside input (Told report) = TellsReport beside report × IsFew report
IsBeside beside input (Bad a) = (byte : ℕ) × IsBadReport beside input byte × IsBadReportAt byte a

-- the status under which a verdict is told
abbrev pub verdict_status : Verdict → Status
verdict_status Just = status.Finished
verdict_status verdict = status.Unjust verdict

-- the answer that tells a verdict
pub record IsVerdictAnswer (verdict : Verdict) (a : Answer) : Type 0 where
  pub text : a.text.items ≡ verdict_text verdict
  pub status : a.status ≡ verdict_status verdict

-- the answer that tells the races of a source under the schedule of a report, if that is legal
abbrev pub IsRacesAnswer : PProgram → Report → Answer → Type 0
IsRacesAnswer tree report a = (after : World) → run tree (entries report.schedule.runs) ≡ Some after → TellsRaces tree report a.text.items a.status
