-- What the report of a run that processors share says beside the rest: that the rule was obeyed, and that the acts are those that each made.
use Rattle.std.specs.Prelude.{◌≡◌, ℕ}
use Rattle.algol_tree.specs.Plain.{PProgram}
use Rattle.b67_schedule.specs.Schedules.{entries}
use Rattle.b67_report.specs.declared.Report.{Report}
use Rattle.b67_listing.specs.Listings.{ListingText}
use Rattle.b67_segment.specs.declared.code.Code.{Code}
use Rattle.b67_stands.specs.Picked.{Pick}
use Rattle.b67_stands.specs.Running.{Running}
use Rattle.b67_stands.specs.Shared.{Shared, ByProcessors}
use Rattle.b67_explain.specs.Explaining.{ExplainsRun}

-- The report is one of a run of this source that so many processors shared. Calls of theirs, of which each take is at the place that the
-- rule picks, lead a plant of the printed code to the printed schedule, and in these calls each made as many acts as is printed.
pub record ExplainsShared (tree : PProgram) (pick : Pick) (processors budget : ℕ) (report : Report) : Type 0 where
  pub explains : ExplainsRun tree processors budget report
  pub code : Code
  pub listed : ListingText code report.listing
  pub plant : Running
  pub shared : Shared code budget pick processors report.acts plant
  pub order : entries plant.schedule.runs ≡ entries report.schedule.runs
  pub books : ByProcessors processors plant report.acts
