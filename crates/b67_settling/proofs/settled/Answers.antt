use Rattle.b67_settling.proofs.Earlier.{settled}
use Rattle.b67_settling.proofs.settled.Goals as goal

pub returns : goal.returns
returns c = settled
