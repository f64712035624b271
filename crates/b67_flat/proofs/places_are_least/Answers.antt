use Rattle.b67_flat.proofs.Least.{places_are_least}
use Rattle.b67_flat.proofs.places_are_least.Goals as goal

pub returns : goal.returns
returns c = places_are_least
