-- The law is the lemma of that name.
use Rattle.algol_standing.proofs.LowLaws.{making_is_low as making_is_low_lem}
use Rattle.algol_standing.proofs.making_is_low.Goals as goal

pub returns : goal.returns
returns c = making_is_low_lem
