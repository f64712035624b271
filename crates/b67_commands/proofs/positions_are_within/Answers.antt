use Rattle.b67_commands.proofs.Moving.{within_all}
use Rattle.b67_commands.proofs.positions_are_within.Goals as goal

pub returns : goal.returns
returns c = within_all
