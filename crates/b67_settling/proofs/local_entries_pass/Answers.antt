use Rattle.b67_settling.proofs.Earlier.{local_entries_pass}
use Rattle.b67_settling.proofs.local_entries_pass.Goals as goal

pub returns : goal.returns
returns c = local_entries_pass
