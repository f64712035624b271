-- What holds of every verdict.
use Rattle.std.specs.Prelude.{◌≡◌}
use Rattle.algol_tree.specs.Plain.{PProgram}
use Rattle.b67_report.specs.declared.Report.{Report}
use Rattle.b67_judge.specs.declared.Verdict.{Verdict}
use Rattle.b67_judge.specs.Judging.{Judges}

-- A report has one verdict: each answer comes exactly where it is so.
abbrev pub ReportsHaveOneVerdict : Type 0
ReportsHaveOneVerdict = (tree : PProgram) (report : Report) (v u : Verdict) → Judges tree report v → Judges tree report u → v ≡ u
