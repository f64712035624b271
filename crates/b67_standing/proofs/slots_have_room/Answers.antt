use Rattle.b67_standing.proofs.Starting.{counts_have_room}
use Rattle.b67_standing.proofs.Forward.{leads_have_room, actions_have_room}
use Rattle.b67_standing.proofs.slots_have_room.Goals as goal

pub returns-clause-counts : goal.returns-clause-counts
returns-clause-counts c = counts_have_room

pub returns-clause-private : goal.returns-clause-private
returns-clause-private c = leads_have_room

pub returns-clause-actions : goal.returns-clause-actions
returns-clause-actions c = actions_have_room
