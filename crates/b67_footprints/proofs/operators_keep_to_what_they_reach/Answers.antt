use Rattle.b67_footprints.proofs.Every.{operators_keep}
use Rattle.b67_footprints.proofs.operators_keep_to_what_they_reach.Goals as goal

pub returns : goal.returns
returns c = operators_keep
