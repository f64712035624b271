use Rattle.b67_footprints.proofs.Worked.{names_may_lead_above}
use Rattle.b67_footprints.proofs.names_may_lead_above_floors.Goals as goal

pub returns : goal.returns
returns c = names_may_lead_above
