use Rattle.algol_laws.proofs.Running.{each_acts}
use Rattle.algol_laws.proofs.each_part_acts.Goals as goal

pub returns : goal.returns
returns c = each_acts
