use Rattle.b67_private.proofs.Own.{operators_are_own}
use Rattle.b67_private.proofs.laws.operators_are_own.Goals as goal

pub returns : goal.returns
returns c = operators_are_own
