use Rattle.algol_calls.proofs.Rests.{calls_fit as calls_fit_lem}
use Rattle.algol_calls.proofs.calls_fit.Goals as goal

pub returns : goal.returns
returns c = calls_fit_lem
