use Rattle.b67_table.proofs.Reading.{reading_decides}
use Rattle.b67_table.proofs.laws.reading_decides.Goals as goal

pub returns : goal.returns
returns c = reading_decides
