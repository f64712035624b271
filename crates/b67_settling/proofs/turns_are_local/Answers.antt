use Rattle.b67_settling.proofs.Turning.{turns_are_local}
use Rattle.b67_settling.proofs.turns_are_local.Goals as goal

pub returns : goal.returns
returns c = turns_are_local
