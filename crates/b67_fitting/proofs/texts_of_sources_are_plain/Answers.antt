use Rattle.b67_fitting.proofs.Written.{sources_plain}
use Rattle.b67_fitting.proofs.texts_of_sources_are_plain.Goals as goal

pub returns : goal.returns
returns c = sources_plain
