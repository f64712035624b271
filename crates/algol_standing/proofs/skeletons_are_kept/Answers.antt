-- The law is the lemma of that name.
use Rattle.algol_standing.proofs.Laws.{skeletons_are_kept as skeletons_are_kept_lem}
use Rattle.algol_standing.proofs.skeletons_are_kept.Goals as goal

pub returns : goal.returns
returns c = skeletons_are_kept_lem
