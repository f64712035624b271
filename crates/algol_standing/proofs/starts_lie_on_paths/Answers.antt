-- The law is the lemma of that name.
use Rattle.algol_standing.proofs.Criticals.{starts_lie_on_paths as starts_lie_on_paths_lem}
use Rattle.algol_standing.proofs.starts_lie_on_paths.Goals as goal

pub returns : goal.returns
returns c = starts_lie_on_paths_lem
