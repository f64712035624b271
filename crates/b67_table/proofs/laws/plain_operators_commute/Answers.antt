use Rattle.b67_table.proofs.Diamond.{plain_operators_commute}
use Rattle.b67_table.proofs.laws.plain_operators_commute.Goals as goal

pub returns : goal.returns
returns c = plain_operators_commute
