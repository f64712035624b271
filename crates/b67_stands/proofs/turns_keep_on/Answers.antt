use Rattle.b67_stands.proofs.Turns.{turns_keep_on}
use Rattle.b67_stands.proofs.turns_keep_on.Goals as goal

pub returns : goal.returns
returns g = turns_keep_on
