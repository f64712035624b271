use Rattle.b67_machine.proofs.Lacking.{lacks, stays}
use Rattle.b67_machine.proofs.step.lacking_is_kept.Goals as goal

pub returns : goal.returns
returns g = record { lacks = lacks; stays = stays }
