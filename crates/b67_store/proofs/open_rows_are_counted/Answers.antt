use Rattle.b67_store.proofs.StoreLaws.{counts}
use Rattle.b67_store.proofs.open_rows_are_counted.Goals as goal

pub returns : goal.returns
returns c = counts
