use Rattle.algol_seen.proofs.Telling as telling
use Rattle.algol_seen.proofs.each_access_is_told.Goals as goal

pub returns : goal.returns
returns c = telling.each_access_is_told
