-- The texts that runs are answered by are judged to be just.
use Rattle.std.proofs.Common.{◌≡◌, refl, sym, ap, ◌∙◌, subst, ℕ, List, length, Some}
use Rattle.algol_tree.specs.Plain.{PProgram}
use Rattle.algol_meaning.specs.Run.{run}
use Rattle.b67_schedule.specs.Schedules.{entries}
use Rattle.b67_report.specs.declared.EndWords.{EndWords}
use Rattle.b67_report.specs.declared.Report.{Report}
use Rattle.b67_report.specs.Reading.{IsReport, SaySame}
use Rattle.b67_report.specs.Texts.{ReportText}
use Rattle.b67_report.proofs.WholeReport.{one_report}
use Rattle.b67_judge.specs.declared.Verdict.TheVariants.{Just}
use Rattle.b67_judge.specs.Judging.{EndFits, IsJust}
use Rattle.b67_judge.specs.Texts.{verdict_text}
use Rattle.b67_judge.proofs.Once.{reports_have_one_verdict}
use Rattle.b67_just.proofs.Just.{runs_are_just, replays_are_just}
use Rattle.b67_desk.specs.declared.status.Status.{Status}
use Rattle.b67_desk.specs.declared.status.Status.TheVariants as status
use Rattle.b67_desk.specs.Answers.{ran, replayed}
use Rattle.b67_desk.specs.Judging.{OrBadReport, bad_report, report_read, OrUnjust, unjust, just, SaysJust}
use Rattle.b67_desk.specs.JudgedJust.{IsJudgedJust, RunsAreJudgedJust, ReplaysAreJudgedJust}

-- what is just of a report is so of one that says the same
just_again : (tree : PProgram) (report other : Report) → SaySame report other → IsJust tree report → IsJust tree other
just_again tree report other same is =
    let runs : entries report.schedule.runs ≡ entries other.schedule.runs = ap entries same.runs in
    record {
      has = record { world = is.has.world; legal = ap (run tree) (sym runs) ∙ is.has.legal; output = sym same.output ∙ is.has.output };
      end =
          subst (λ (e : EndWords). EndFits is.has.world (length (entries other.schedule.runs)) e) same.end
          (subst (λ (ps : List ℕ). EndFits is.has.world (length ps) report.end) runs is.end);
    }

module _ (tree : PProgram) where
  just_only : (report : Report) (text : List ℕ) (s : Status) → IsJust tree report → OrUnjust tree report SaysJust text s → SaysJust text s
  just_only report _ _ is (unjust verdict judges other) = absurd (other (reports_have_one_verdict tree report verdict Just judges is))
  just_only report text s is (just _ _ also says) = says

  module _ (report : Report) (is_report : IsReport report) (is_just : IsJust tree report) where
    only_so : (input : ℕ) (text : List ℕ) (s : Status) → OrBadReport (Some (ReportText report)) input (λ other. OrUnjust tree other SaysJust) text s → SaysJust text s
    only_so input _ _ (bad_report byte bad) = absurd (bad.none (record { report = report; is_report = is_report; text_is = refl }))
    only_so input text s (report_read other _ _ told answers) =
        just_only other text s (just_again tree report other (one_report report other is_report told.0 told.1) is_just) answers

    pub judged_just : IsJudgedJust tree (ReportText report)
    judged_just = record {
      is = λ by input. report_read report (verdict_text Just) status.Finished (is_report, refl) (just (verdict_text Just) status.Finished is_just (refl, refl));
      only = λ by input text s. only_so input text s;
    }

pub runs_judged : RunsAreJudgedJust
runs_judged by processors budget rule tree _ _ (ran report x) =
    judged_just tree report x.explains.explains.is_report (runs_are_just tree processors budget report x.explains)

pub replays_judged : ReplaysAreJudgedJust
replays_judged budget tree given _ _ (replayed report x) = judged_just tree report x.explains.is_report (replays_are_just tree given budget report x)
