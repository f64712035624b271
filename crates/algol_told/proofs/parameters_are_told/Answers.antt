use Rattle.algol_told.proofs.Parameters.{parameters_are_told}
use Rattle.algol_told.proofs.parameters_are_told.Goals as goal

pub returns : goal.returns
returns c = parameters_are_told
