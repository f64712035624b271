use Rattle.b67_explain.proofs.Turning.{picked_runs_are_turns}
use Rattle.b67_explain.proofs.picked_runs_are_turns.Goals as goal

pub returns : goal.returns
returns g = picked_runs_are_turns
