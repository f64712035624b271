use Rattle.b67_settling.proofs.Turning.{stack_entries_are_local}
use Rattle.b67_settling.proofs.stack_entries_are_local.Goals as goal

pub returns : goal.returns
returns c = stack_entries_are_local
