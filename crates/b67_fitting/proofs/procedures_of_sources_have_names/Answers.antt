use Rattle.b67_fitting.proofs.NamesRead.{sources_named}
use Rattle.b67_fitting.proofs.procedures_of_sources_have_names.Goals as goal

pub returns : goal.returns
returns c = sources_named
