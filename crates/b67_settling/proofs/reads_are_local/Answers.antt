use Rattle.b67_settling.proofs.Reading.{reads_are_local}
use Rattle.b67_settling.proofs.reads_are_local.Goals as goal

pub returns : goal.returns
returns c = reads_are_local
