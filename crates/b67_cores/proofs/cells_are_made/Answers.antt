use Rattle.b67_cores.proofs.Making.{cells_are_made}
use Rattle.b67_cores.proofs.cells_are_made.Goals as goal

pub returns : goal.returns
returns c = cells_are_made
