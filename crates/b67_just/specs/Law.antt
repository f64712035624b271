-- The reports that the top call's clause allows are just.
use Rattle.std.specs.Prelude.{ℕ}
use Rattle.algol_tree.specs.Plain.{PProgram}
use Rattle.b67_schedule.specs.declared.reading.Given.{Given}
use Rattle.b67_report.specs.declared.Report.{Report}
use Rattle.b67_explain.specs.Explaining.{ExplainsRun, ExplainsReplay}
use Rattle.b67_judge.specs.Judging.{IsJust}

abbrev pub RunsAreJust : Type 0
RunsAreJust = (tree : PProgram) (processors budget : ℕ) (report : Report) → ExplainsRun tree processors budget report → IsJust tree report

abbrev pub ReplaysAreJust : Type 0
ReplaysAreJust = (tree : PProgram) (given : Given) (budget : ℕ) (report : Report) → ExplainsReplay tree given budget report → IsJust tree report
