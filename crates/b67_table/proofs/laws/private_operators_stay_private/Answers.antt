use Rattle.b67_table.proofs.Privacy.{private_is_private}
use Rattle.b67_table.proofs.laws.private_operators_stay_private.Goals as goal

pub returns : goal.returns
returns c = private_is_private
