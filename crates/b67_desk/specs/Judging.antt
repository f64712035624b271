-- What the commands `judge` and `race` answer: a source with a report beside it.
use Rattle.std.specs.Prelude.{◌≡◌, ◌≢◌, ℕ, ◌++◌, List, codes, Option, Some, None}
use Rattle.std.specs.Fmt.{decimal}
use Rattle.algol_tree.specs.Plain.{PProgram}
use Rattle.b67_text.specs.Texts.{IsRefused}
use Rattle.b67_schedule.specs.Schedules.{entries}
use Rattle.b67_report.specs.declared.Report.{Report}
use Rattle.b67_report.specs.Reading.{IsReport, IsReportText}
use Rattle.b67_report.specs.Texts.{ReportText, line_text}
use Rattle.b67_judge.specs.declared.Verdict.{Verdict}
use Rattle.b67_judge.specs.declared.Verdict.TheVariants.{Just}
use Rattle.b67_judge.specs.Judging.{Judges, IsJust}
use Rattle.b67_judge.specs.Texts.{verdict_text}
use Rattle.b67_race.specs.Races.{Race}
use Rattle.b67_races.specs.Schedules.{AreRacesOf}
use Rattle.b67_races.specs.Texts.{races_text}
use Rattle.b67_desk.specs.declared.status.Status.{Status}
use Rattle.b67_desk.specs.declared.status.Status.TheVariants as status

-- ---- the text beside the source

abbrev pub bad_report_text : ℕ → List ℕ
bad_report_text byte = line_text (codes "BAD REPORT " ++ decimal byte)

-- the first place at which a report text is bad; where the input has none, that is said at the input's end
abbrev pub IsBadReport : Option (List ℕ) → ℕ → ℕ → Type 0
IsBadReport None input byte = byte ≡ input
IsBadReport (Some text) input byte = IsRefused IsReportText text byte

-- the report that a text tells
abbrev pub TellsReport : Option (List ℕ) → Report → Type 0
TellsReport None report = ⊥
TellsReport (Some text) report = IsReport report × (text ≡ ReportText report)

-- What a report text is answered by: a refusal exactly where it is bad, else what answers the report that it tells.
pub data OrBadReport (beside : Option (List ℕ)) (input : ℕ) (AnswersIts : Report → List ℕ → Status → Type 0) : List ℕ → Status → Type 0 where
  bad_report : (byte : ℕ) → IsBadReport beside input byte → OrBadReport beside input AnswersIts (bad_report_text byte) (status.BadReport byte)
  report_read : (report : Report) (text : List ℕ) (s : Status) → TellsReport beside report → AnswersIts report text s → OrBadReport beside input AnswersIts text s

-- What a report of a source is answered by: what is wrong with it exactly where it is not just, else what answers a just one.
pub data OrUnjust (tree : PProgram) (report : Report) (AnswersIts : List ℕ → Status → Type 0) : List ℕ → Status → Type 0 where
  unjust : (verdict : Verdict) → Judges tree report verdict → verdict ≢ Just → OrUnjust tree report AnswersIts (verdict_text verdict) (status.Unjust verdict)
  just : (text : List ℕ) (s : Status) → IsJust tree report → AnswersIts text s → OrUnjust tree report AnswersIts text s

-- ---- the answers to a just report

-- `judge`: that it is one
abbrev pub SaysJust : List ℕ → Status → Type 0
SaysJust text s = (text ≡ verdict_text Just) × (s ≡ status.Finished)

-- `race`: the races of the source under the printed schedule
pub data TellsRaces (tree : PProgram) (report : Report) : List ℕ → Status → Type 0 where
  told_races : (rs : List Race) → AreRacesOf tree (entries report.schedule.runs) rs → TellsRaces tree report (races_text rs) status.Finished
