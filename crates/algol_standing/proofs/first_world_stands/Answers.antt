-- The law is the lemma of that name.
use Rattle.algol_standing.proofs.Worlds.{first_world_stands as first_world_stands_lem}
use Rattle.algol_standing.proofs.first_world_stands.Goals as goal

pub returns : goal.returns
returns c = first_world_stands_lem
