use Rattle.b67_table.proofs.Limit.{limit_comes_last}
use Rattle.b67_table.proofs.laws.limit_comes_last.Goals as goal

pub returns : goal.returns
returns c = limit_comes_last
