use Rattle.b67_fitting.proofs.Fits.{labels_stand}
use Rattle.b67_fitting.proofs.labels_of_programs_stand.Goals as goal

pub returns : goal.returns
returns c = labels_stand
