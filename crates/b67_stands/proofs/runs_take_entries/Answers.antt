use Rattle.b67_stands.proofs.Advancing.{runs_take_entries}
use Rattle.b67_stands.proofs.runs_take_entries.Goals as goal

pub returns : goal.returns
returns g = runs_take_entries
