use Rattle.b67_settling.proofs.Turning.{own_entries_are_local}
use Rattle.b67_settling.proofs.own_entries_are_local.Goals as goal

pub returns : goal.returns
returns c = own_entries_are_local
