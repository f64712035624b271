use Rattle.b67_commands.proofs.Moving.{stores_lead}
use Rattle.b67_commands.proofs.stores_lead_to_the_next.Goals as goal

pub returns : goal.returns
returns c = stores_lead
