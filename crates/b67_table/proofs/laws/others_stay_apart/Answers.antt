use Rattle.b67_table.proofs.Parts.{others_stay_apart}
use Rattle.b67_table.proofs.laws.others_stay_apart.Goals as goal

pub returns : goal.returns
returns c = others_stay_apart
