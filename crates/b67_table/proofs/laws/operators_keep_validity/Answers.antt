use Rattle.b67_table.proofs.AllValid.{operators_keep_valid}
use Rattle.b67_table.proofs.laws.operators_keep_validity.Goals as goal

pub returns : goal.returns
returns c = operators_keep_valid
