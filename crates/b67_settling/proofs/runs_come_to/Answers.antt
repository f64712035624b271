use Rattle.b67_settling.proofs.Coming.{runs_come_to}
use Rattle.b67_settling.proofs.runs_come_to.Goals as goal

pub returns : goal.returns
returns c = runs_come_to
