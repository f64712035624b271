-- The law is the lemma of that name.
use Rattle.algol_standing.proofs.LowLaws.{others_keep_low as others_keep_low_lem}
use Rattle.algol_standing.proofs.others_keep_low.Goals as goal

pub returns : goal.returns
returns c = others_keep_low_lem
