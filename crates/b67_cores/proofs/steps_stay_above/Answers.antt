use Rattle.b67_cores.proofs.Staying.{steps_stay_above}
use Rattle.b67_cores.proofs.steps_stay_above.Goals as goal

pub returns : goal.returns
returns c = steps_stay_above
