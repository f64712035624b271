use Rattle.b67_standing.proofs.Jumping.{jumps_stand as jumps_stand_lem}
use Rattle.b67_standing.proofs.Starting.{inner_blocks_follow}
use Rattle.b67_standing.proofs.jumps_stand.Goals as goal

pub returns-clause-inner : goal.returns-clause-inner
returns-clause-inner c = inner_blocks_follow

pub returns-clause-jumps : goal.returns-clause-jumps
returns-clause-jumps c = jumps_stand_lem
