-- From a walk to a verdict.
use Rattle.std.proofs.Common.{◌≡◌, ◌∙◌, ℕ, length, Some}
use Rattle.algol_tree.specs.Plain.{PProgram}
use Rattle.algol_tree.specs.Scopes.{scopes_of}
use Rattle.algol_meaning.specs.World.{World}
use Rattle.algol_meaning.specs.Run.{run_from, start}
use Rattle.b67_schedule.specs.Schedules.{entries}
use Rattle.b67_report.specs.declared.Report.{Report}
use Rattle.algol_lean.proofs.InUse.{run_is}
use Rattle.b67_judge.specs.Judging.{EndFits, HasOutput, IsJust, IsFirstIllegal, IsFirstOther, IsOtherLine, IsOtherEnd}
use Rattle.b67_judge.specs.Walked.{StopsAt}

module _ (tree : PProgram) (report : Report) (w : World) where
  pub bad_entry : (number : ℕ) → StopsAt (scopes_of tree) (entries report.schedule.runs) (start (scopes_of tree)) w number → IsFirstIllegal tree (entries report.schedule.runs) number
  bad_entry number s =
      record { done = s.done; process = s.process; left = s.left; split = s.split; world = w; legal = run_is tree s.done ∙ s.legal; stays = s.stays; is = s.is }

  module _ (legal : run_from (scopes_of tree) (entries report.schedule.runs) (Some (start (scopes_of tree))) ≡ Some w) where
    pub bad_line : (number : ℕ) → IsFirstOther report.output w.output number → IsOtherLine tree report number
    bad_line number other = record { world = w; legal = run_is tree (entries report.schedule.runs) ∙ legal; other = other }

    abbrev pub has_output : report.output ≡ w.output → HasOutput tree report
    has_output same = record { world = w; legal = run_is tree (entries report.schedule.runs) ∙ legal; output = same }

    pub just : report.output ≡ w.output → EndFits w (length (entries report.schedule.runs)) report.end → IsJust tree report
    just same fits = record { has = has_output same; end = fits }

    pub bad_end : report.output ≡ w.output → (EndFits w (length (entries report.schedule.runs)) report.end → ⊥) → IsOtherEnd tree report
    bad_end same other = record { has = has_output same; other = other }
