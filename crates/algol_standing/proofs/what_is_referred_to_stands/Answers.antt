-- The law is the lemma of that name.
use Rattle.algol_standing.proofs.Left.{what_is_referred_to_stands as what_is_referred_to_stands_lem}
use Rattle.algol_standing.proofs.what_is_referred_to_stands.Goals as goal

pub returns : goal.returns
returns c = what_is_referred_to_stands_lem
