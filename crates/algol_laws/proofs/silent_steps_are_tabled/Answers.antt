use Rattle.algol_laws.proofs.Quiet.{tabled}
use Rattle.algol_laws.proofs.silent_steps_are_tabled.Goals as goal

pub returns : goal.returns
returns c = tabled
