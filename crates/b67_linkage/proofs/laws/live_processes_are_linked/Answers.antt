use Rattle.b67_linkage.proofs.Linked.{live_are_linked}
use Rattle.b67_linkage.proofs.laws.live_processes_are_linked.Goals as goal

pub returns : goal.returns
returns c = live_are_linked
