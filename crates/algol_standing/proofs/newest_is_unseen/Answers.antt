-- The law is the lemma of that name.
use Rattle.algol_standing.proofs.Unseen.{newest_is_unseen as newest_is_unseen_lem}
use Rattle.algol_standing.proofs.newest_is_unseen.Goals as goal

pub returns : goal.returns
returns c = newest_is_unseen_lem
