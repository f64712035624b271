use Rattle.b67_stands.proofs.Alone.{turns_keep_by_one}
use Rattle.b67_stands.proofs.turns_keep_by_one.Goals as goal

pub returns : goal.returns
returns g = turns_keep_by_one
