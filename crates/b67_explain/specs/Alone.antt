-- What the report of a run by one processor says beside the rest: whose each action is, and who made them.
use Rattle.std.specs.Prelude.{ℕ, ◌≤◌, length, sum}
use Rattle.algol_tree.specs.Plain.{PProgram}
use Rattle.b67_schedule.specs.Schedules.{entries}
use Rattle.b67_report.specs.declared.Report.{Report}
use Rattle.b67_stands.specs.Picked.{Pick}
use Rattle.b67_explain.specs.Turning.{IsByTurns}
use Rattle.b67_explain.specs.Explaining.{ExplainsRun}
use Rattle.b67_explain.specs.Telling.{AreOfFirst}

-- The report is one of a run of this source in which one processor did all the work. Its schedule is that of the turns of the source under
-- the rule, all operators are at most as many as the budget, and all acts are the first processor's.
pub record ExplainsAlone (tree : PProgram) (pick : Pick) (processors budget : ℕ) (report : Report) : Type 0 where
  pub explains : ExplainsRun tree processors budget report
  pub turns : IsByTurns tree pick (entries report.schedule.runs)
  pub within : sum report.operators ≤ budget
  pub first : AreOfFirst processors (length (entries report.schedule.runs)) report.acts
