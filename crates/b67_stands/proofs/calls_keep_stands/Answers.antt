use Rattle.b67_stands.proofs.Kept.{calls_keep_stands}
use Rattle.b67_stands.proofs.calls_keep_stands.Goals as goal

pub returns : goal.returns
returns g = calls_keep_stands
