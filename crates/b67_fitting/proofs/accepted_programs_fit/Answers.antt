use Rattle.b67_fitting.proofs.Fits.{accepted_fit}
use Rattle.b67_fitting.proofs.accepted_programs_fit.Goals as goal

pub returns : goal.returns
returns c = accepted_fit
