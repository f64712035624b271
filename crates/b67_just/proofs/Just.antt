-- The printed end of a report that explains a run fits the world under its schedule.
use Rattle.std.proofs.Common.{ℕ, List, length, sum}
use Rattle.algol_tree.specs.Plain.{PProgram}
use Rattle.algol_meaning.specs.World.{World}
use Rattle.b67_schedule.specs.Schedules.{entries}
use Rattle.b67_report.specs.declared.Report.{Report}
use Rattle.b67_report.specs.declared.EndWords.{EndWords}
use Rattle.b67_report.specs.declared.EndWords.TheVariants as ends
use Rattle.b67_segment.specs.declared.code.Code.{Code}
use Rattle.b67_table.specs.Image.{Image}
use Rattle.b67_explain.specs.Explaining.{Explains, EndIs, IsOwnEnd, ScheduleIsLeft}
use Rattle.b67_judge.specs.Judging.{EndFits, HasOutput}
use Rattle.b67_just.specs.Law.{RunsAreJust, ReplaysAreJust}

module _ (tree : PProgram) (code : Code) (world : World) (image : Image) (budget operators performed : ℕ) where
  -- an end that is the run's own
  own_fits : (end : EndWords) → EndIs tree code world image budget operators end → IsOwnEnd end → EndFits world performed end
  own_fits ends.Finished e own = e.0
  own_fits (ends.Fault kind process) e own = e.0
  own_fits ends.AllWaiting e own = e.0
  own_fits ends.BudgetSpent e own = e.0
  own_fits (ends.StackLimit process words) e own = e.0
  own_fits ends.ScheduleEnded e own = absurd own
  own_fits (ends.Illegal entry) e own = absurd own
  own_fits (ends.Differs entry) e own = absurd own

  -- .. or that of a given schedule, of which these entries are left
  left_fits : (end : EndWords) (left : List ℕ) → EndIs tree code world image budget operators end → ScheduleIsLeft world performed end left → EndFits world performed end
  left_fits ends.Finished left e l = e.0
  left_fits (ends.Fault kind process) left e l = e.0
  left_fits ends.AllWaiting left e l = e.0
  left_fits ends.BudgetSpent left e l = e.0
  left_fits (ends.StackLimit process words) left e l = e.0
  left_fits ends.ScheduleEnded left e l = e.0
  left_fits (ends.Illegal entry) left e l = l.0
  left_fits (ends.Differs entry) left e l = l

abbrev has_of : (tree : PProgram) (processors budget : ℕ) (report : Report) (x : Explains tree processors budget report) → HasOutput tree report
has_of tree processors budget report x = record { world = x.world; legal = x.legal; output = x.output }

pub runs_are_just : RunsAreJust
runs_are_just tree processors budget report x =
    record {
      has = has_of tree processors budget report x.explains;
      end = own_fits tree x.explains.code x.explains.world x.explains.image budget (sum report.operators) (length (entries report.schedule.runs)) report.end x.explains.ended x.own;
    }

pub replays_are_just : ReplaysAreJust
replays_are_just tree given budget report x =
    record {
      has = has_of tree 1 budget report x.explains;
      end = left_fits tree x.explains.code x.explains.world x.explains.image budget (sum report.operators) (length (entries report.schedule.runs)) report.end x.left x.explains.ended x.leaves;
    }
