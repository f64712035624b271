use Rattle.algol_front.proofs.Sources.{one_first}
use Rattle.algol_front.proofs.texts_are_refused_once.Goals as goal

pub returns : goal.returns
returns c = one_first
