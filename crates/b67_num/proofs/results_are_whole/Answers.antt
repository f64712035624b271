use Rattle.b67_num.proofs.WholeLaws.{calculated_fits}
use Rattle.b67_num.proofs.results_are_whole.Goals as goal

pub returns : goal.returns
returns c = calculated_fits
