use Rattle.b67_table.proofs.Working.{rows_at_work}
use Rattle.b67_table.proofs.laws.rows_at_work.Goals as goal

pub returns : goal.returns
returns c = rows_at_work
