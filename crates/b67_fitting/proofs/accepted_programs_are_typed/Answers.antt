use Rattle.b67_fitting.proofs.Fits.{accepted_typed}
use Rattle.b67_fitting.proofs.accepted_programs_are_typed.Goals as goal

pub returns : goal.returns
returns c = accepted_typed
