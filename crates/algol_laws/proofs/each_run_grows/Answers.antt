use Rattle.algol_laws.proofs.Growing.{each_grows}
use Rattle.algol_laws.proofs.each_run_grows.Goals as goal

pub returns : goal.returns
returns c = each_grows
