use Rattle.b67_exec.proofs.Working.{at_work}
use Rattle.b67_exec.proofs.turns_at_work.Goals as goal

pub returns : goal.returns
returns c = at_work
