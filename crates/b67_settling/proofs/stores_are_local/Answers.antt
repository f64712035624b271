use Rattle.b67_settling.proofs.Reading.{stores_are_local}
use Rattle.b67_settling.proofs.stores_are_local.Goals as goal

pub returns : goal.returns
returns c = stores_are_local
