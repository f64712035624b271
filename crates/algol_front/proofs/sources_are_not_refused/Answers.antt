use Rattle.algol_front.proofs.Sources.{source_not_refused}
use Rattle.algol_front.proofs.sources_are_not_refused.Goals as goal

pub returns : goal.returns
returns c = source_not_refused
