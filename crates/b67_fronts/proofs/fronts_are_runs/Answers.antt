use Rattle.b67_fronts.proofs.Onward.{fronts_are_runs}
use Rattle.b67_fronts.proofs.fronts_are_runs.Goals as goal

pub returns : goal.returns
returns c = fronts_are_runs
