use Rattle.algol_seen.proofs.Telling as telling
use Rattle.algol_seen.proofs.each_signal_is_told.Goals as goal

pub returns : goal.returns
returns c = telling.each_signal_is_told
