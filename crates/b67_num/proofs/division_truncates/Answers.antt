use Rattle.b67_num.proofs.WholeLaws.{divides, divides_exactly}
use Rattle.b67_num.proofs.division_truncates.Goals as goal

pub returns-clause-truncated : goal.returns-clause-truncated
returns-clause-truncated c = divides

pub returns-clause-exact : goal.returns-clause-exact
returns-clause-exact c = divides_exactly
