use Rattle.b67_table.proofs.Reading.{refusals_write_nothing}
use Rattle.b67_table.proofs.laws.refusals_write_nothing.Goals as goal

pub returns : goal.returns
returns c = refusals_write_nothing
