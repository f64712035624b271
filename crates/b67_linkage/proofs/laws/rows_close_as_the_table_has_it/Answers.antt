use Rattle.b67_linkage.proofs.Closes.{closes_as_the_table}
use Rattle.b67_linkage.proofs.laws.rows_close_as_the_table_has_it.Goals as goal

pub returns : goal.returns
returns c = closes_as_the_table
