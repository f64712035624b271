use Rattle.b67_footprints.proofs.Apart.{private_parts_stay}
use Rattle.b67_footprints.proofs.private_parts_stay.Goals as goal

pub returns : goal.returns
returns c = private_parts_stay
