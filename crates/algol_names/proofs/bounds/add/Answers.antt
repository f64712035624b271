use Rattle.std.proofs.Common.{arith}
use Rattle.algol_names.proofs.bounds.add.Goals as goal

pub returns : goal.returns
returns c = λ spot. grind arith
