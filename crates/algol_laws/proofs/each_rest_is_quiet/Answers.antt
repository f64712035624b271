use Rattle.algol_laws.proofs.Again.{rest_again}
use Rattle.algol_laws.proofs.each_rest_is_quiet.Goals as goal

pub returns : goal.returns
returns c = rest_again
