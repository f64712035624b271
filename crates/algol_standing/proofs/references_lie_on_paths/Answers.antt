-- The law is the lemma of that name.
use Rattle.algol_standing.proofs.Left.{references_lie_on_paths as references_lie_on_paths_lem}
use Rattle.algol_standing.proofs.references_lie_on_paths.Goals as goal

pub returns : goal.returns
returns c = references_lie_on_paths_lem
