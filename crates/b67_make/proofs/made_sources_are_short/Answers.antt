use Rattle.b67_make.proofs.Short.{made_le}
use Rattle.b67_make.proofs.made_sources_are_short.Goals as goal

pub returns : goal.returns
returns c = made_le
