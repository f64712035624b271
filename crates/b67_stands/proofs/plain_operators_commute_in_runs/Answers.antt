use Rattle.b67_stands.proofs.Commuting.{commute_in_runs}
use Rattle.b67_stands.proofs.plain_operators_commute_in_runs.Goals as goal

pub returns : goal.returns
returns g = commute_in_runs
