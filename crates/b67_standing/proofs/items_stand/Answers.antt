use Rattle.b67_standing.proofs.Items.{items_stand as items_stand_lem}
use Rattle.b67_standing.proofs.Starting.{blocks_start, inner_blocks_start}
use Rattle.b67_standing.proofs.items_stand.Goals as goal

pub returns-clause-items : goal.returns-clause-items
returns-clause-items c = items_stand_lem

pub returns-clause-block : goal.returns-clause-block
returns-clause-block c = blocks_start

pub returns-clause-inner : goal.returns-clause-inner
returns-clause-inner c = inner_blocks_start
