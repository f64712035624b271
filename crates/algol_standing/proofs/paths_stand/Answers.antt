-- The law is the lemma of that name.
use Rattle.algol_standing.proofs.Laws.{paths_stand as paths_stand_lem}
use Rattle.algol_standing.proofs.paths_stand.Goals as goal

pub returns : goal.returns
returns c = paths_stand_lem
