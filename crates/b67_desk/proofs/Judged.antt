-- From what is found of a report to the answer.
use Rattle.std.proofs.Common.{arith, ◌≡◌, refl, sym, ap, ◌∙◌, subst, ℕ, ◌+◌, ◌≤◌, List, ◌∷◌, length, Option, Some, None, Result, Ok, Err}
use Rattle.std.specs.Prelude.{◌≢◌, IfOk}
use Rattle.std.specs.declared.alloc.AllocError.{AllocError}
use Rattle.std.proofs.lemmas.List.{length-append}
use Rattle.algol_tree.specs.Plain.{PProgram}
use Rattle.algol_meaning.specs.World.{World}
use Rattle.algol_meaning.specs.Run.{run}
use Rattle.b67_words.specs.declared.Task.TheVariants as tasks
use Rattle.b67_words.specs.declared.Words.{Words}
use Rattle.b67_words.specs.declared.Words.TheVariants.{OnSource, Exec, Trial}
use Rattle.b67_parts.specs.declared.TheConstants.{MOST_INPUT_BYTES}
use Rattle.b67_parts.specs.Parts.{Ends, by_line_feed, by_return, by_end, Divides}
use Rattle.b67_schedule.specs.Schedules.{entries}
use Rattle.b67_report.specs.declared.Report.{Report}
use Rattle.b67_report.specs.Reading.{IsReport}
use Rattle.b67_report.specs.Texts.{ReportText}
use Rattle.b67_judge.specs.declared.Verdict.{Verdict}
use Rattle.b67_judge.specs.declared.Verdict.TheVariants.{Just, BadEntry, BadLine, BadEnd}
use Rattle.b67_judge.specs.Judging.{Judges, IsJust}
use Rattle.b67_judge.specs.Texts.{verdict_text}
use Rattle.b67_race.specs.Races.{Race}
use Rattle.b67_races.specs.Schedules.{AreRacesOf}
use Rattle.b67_races.specs.Texts.{races_text}
use Rattle.b67_desk.specs.declared.status.Status.{Status}
use Rattle.b67_desk.specs.declared.status.Status.TheVariants as status
use Rattle.b67_desk.specs.declared.asking.Answer.{Answer}
use Rattle.b67_desk.specs.declared.judging.Beside.TheVariants.{Told, Bad}
use Rattle.b67_desk.specs.Answers.{DividedBy, IsDivided, form_of, most_bytes}
use Rattle.b67_desk.specs.Judging.{bad_report_text, IsBadReport, TellsReport, OrBadReport, bad_report, report_read, OrUnjust, unjust, just, SaysJust, TellsRaces, told_races}
use Rattle.b67_desk.specs.Judged.{IsShortText, IsFew, IsBadReportAt, IsBeside, verdict_status, IsVerdictAnswer, IsRacesAnswer}
use Rattle.b67_desk.proofs.Sizes.{output_within, schedule_within}

-- ---- how long the text beside a source is

text_after : (rest text : List ℕ) → Ends rest text → length text ≤ length rest
text_after rest text (by_line_feed e) = let n : length rest ≡ length (10 ∷ text) = ap length e in omega (arith, n)
text_after rest text (by_return e) = let n : length rest ≡ length (13 ∷ 10 ∷ text) = ap length e in omega (arith, n)
text_after rest text (by_end e f) = let n : length text ≡ 0 = ap length f in omega (arith, n)

text_within : (mark bytes source text : List ℕ) → Divides mark bytes source text → length text ≤ length bytes
text_within mark bytes source text d =
    let after = text_after d.marked.rest text d.marked.ends in
    let marked : length d.rest ≡ length mark + length d.marked.rest = ap length d.marked.are ∙ length-append mark d.marked.rest in
    let all : length bytes ≡ length source + length d.rest = ap length d.are ∙ length-append source d.rest in
    omega (arith, after, marked, all)

short_by : (mark : Option (List ℕ)) (bytes source : List ℕ) (beside : Option (List ℕ)) → length bytes ≤ MOST_INPUT_BYTES → DividedBy mark bytes source beside → IsShortText beside
short_by None bytes source beside few divided = subst IsShortText (sym divided.1) tt
short_by (Some mark) bytes source None few divided = tt
short_by (Some mark) bytes source (Some text) few divided = let within = text_within mark bytes source text divided.0 in omega (arith, within, few)

-- no command has a longer input
most_of_all : (command : Words) → most_bytes command ≤ MOST_INPUT_BYTES
most_of_all (OnSource (tasks.Run processors budget rule)) = omega arith
most_of_all (OnSource tasks.Check) = omega arith
most_of_all (OnSource tasks.List) = omega arith
most_of_all (OnSource (tasks.Replay budget)) = omega arith
most_of_all (OnSource tasks.Judge) = omega arith
most_of_all (OnSource tasks.Race) = omega arith
most_of_all (OnSource (tasks.Dump entries)) = omega arith
most_of_all (OnSource tasks.Console) = omega arith
most_of_all (OnSource (tasks.Outcomes n)) = omega arith
most_of_all (Exec budget) = omega arith
most_of_all (Trial n) = omega arith

pub short_beside : (command : Words) (bytes source : List ℕ) (beside : Option (List ℕ)) → length bytes ≤ most_bytes command → IsDivided command bytes source beside → IsShortText beside
short_beside command bytes source beside few divided =
    let most = most_of_all command in short_by (form_of command).mark bytes source beside (omega (arith, few, most)) divided

-- ---- the text beside a source

pub few_of_text : (text : List ℕ) (report : Report) → length text ≤ MOST_INPUT_BYTES → IsReport report → text ≡ ReportText report → IsFew report
few_of_text text report short is same =
    let n : length text ≡ length (ReportText report) = ap length same in
    let output = output_within report in
    let schedule = schedule_within report is in
    record { output = omega (arith, n, output, short); entries = omega (arith, n, schedule, short) }

pub told_beside : (beside : Option (List ℕ)) (text : List ℕ) (input : ℕ) (report : Report) → beside ≡ Some text → IsShortText beside → IsReport report × (text ≡ ReportText report) →
    IsBeside beside input (Told report)
told_beside beside text input report same short is =
    subst (λ (o : Option (List ℕ)). IsBeside o input (Told report)) (sym same)
    (is, few_of_text text report (subst IsShortText same short) is.0 is.1)

pub bad_beside : (beside kept : Option (List ℕ)) (input byte : ℕ) (a : Answer) → beside ≡ kept → IsBadReport kept input byte → IsBadReportAt byte a → IsBeside beside input (Bad a)
bad_beside beside kept input byte a same bad is = (byte, subst (λ (o : Option (List ℕ)). IsBadReport o input byte) (sym same) bad, is)

module _ (beside : Option (List ℕ)) (input : ℕ) (Its : Report → List ℕ → Status → Type 0) where
  pub told_answered : (report : Report) (result : Result Answer AllocError) → TellsReport beside report → IfOk result (λ a. Its report a.text.items a.status) →
      IfOk result (λ a. OrBadReport beside input Its a.text.items a.status)
  told_answered report (Ok a) told is = report_read report a.text.items a.status told is
  told_answered report (Err e) told is = is

  pub bad_answered : (a : Answer) → IsBeside beside input (Bad a) → OrBadReport beside input Its a.text.items a.status
  bad_answered a (byte, bad, is) =
      subst (λ (t : List ℕ). OrBadReport beside input Its t a.status) (sym is.text)
      (subst (λ (s : Status). OrBadReport beside input Its (bad_report_text byte) s) (sym is.status) (bad_report byte bad))

-- ---- verdicts

unjust_status : (verdict : Verdict) → verdict ≢ Just → verdict_status verdict ≡ status.Unjust verdict
unjust_status Just other = absurd (other refl)
unjust_status (BadEntry entry) other = refl
unjust_status (BadLine line) other = refl
unjust_status BadEnd other = refl

module _ (tree : PProgram) (report : Report) where
  unjust_is : (Its : List ℕ → Status → Type 0) (verdict : Verdict) (a : Answer) → Judges tree report verdict → verdict ≢ Just → IsVerdictAnswer verdict a →
      OrUnjust tree report Its a.text.items a.status
  unjust_is Its verdict a judges other is =
      subst (λ (t : List ℕ). OrUnjust tree report Its t a.status) (sym is.text)
      (subst (λ (s : Status). OrUnjust tree report Its (verdict_text verdict) s) (sym (is.status ∙ unjust_status verdict other)) (unjust verdict judges other))

  pub unjust_answered : (Its : List ℕ → Status → Type 0) (verdict : Verdict) (result : Result Answer AllocError) → Judges tree report verdict → verdict ≢ Just →
      IfOk result (IsVerdictAnswer verdict) → IfOk result (λ a. OrUnjust tree report Its a.text.items a.status)
  unjust_answered Its verdict (Ok a) judges other is = unjust_is Its verdict a judges other is
  unjust_answered Its verdict (Err e) judges other is = is

  verdict_is : (verdict : Verdict) (a : Answer) → Judges tree report verdict → IsVerdictAnswer verdict a → OrUnjust tree report SaysJust a.text.items a.status
  verdict_is Just a judges is = just a.text.items a.status judges (is.text, is.status)
  verdict_is (BadEntry entry) a judges is = unjust_is SaysJust (BadEntry entry) a judges (λ e. cc) is
  verdict_is (BadLine line) a judges is = unjust_is SaysJust (BadLine line) a judges (λ e. cc) is
  verdict_is BadEnd a judges is = unjust_is SaysJust BadEnd a judges (λ e. cc) is

  pub verdict_answered : (verdict : Verdict) (result : Result Answer AllocError) → Judges tree report verdict → IfOk result (IsVerdictAnswer verdict) →
      IfOk result (λ a. OrUnjust tree report SaysJust a.text.items a.status)
  verdict_answered verdict (Ok a) judges is = verdict_is verdict a judges is
  verdict_answered verdict (Err e) judges is = is

  pub races_answered : (result : Result Answer AllocError) → IsJust tree report → IfOk result (IsRacesAnswer tree report) →
      IfOk result (λ a. OrUnjust tree report (TellsRaces tree report) a.text.items a.status)
  races_answered (Ok a) is_just is = just a.text.items a.status is_just (is is_just.has.world is_just.has.legal)
  races_answered (Err e) is_just is = is

  pub races_told : (rs : List Race) (text : List ℕ) (s : Status) → text ≡ races_text rs → s ≡ status.Finished →
      ((after : World) → run tree (entries report.schedule.runs) ≡ Some after → AreRacesOf tree (entries report.schedule.runs) rs) →
      (after : World) → run tree (entries report.schedule.runs) ≡ Some after → TellsRaces tree report text s
  races_told rs text s text_is s_is are after legal =
      subst (λ (t : List ℕ). TellsRaces tree report t s) (sym text_is)
      (subst (λ (z : Status). TellsRaces tree report (races_text rs) z) (sym s_is) (told_races rs (are after legal)))
