use Rattle.b67_fitting.proofs.Numbered.{sources_whole}
use Rattle.b67_fitting.proofs.numbers_of_sources_are_whole.Goals as goal

pub returns : goal.returns
returns c = sources_whole
