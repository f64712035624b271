use Rattle.algol_told.proofs.Told.{each_part_is_told}
use Rattle.algol_told.proofs.parts_are_told.Goals as goal

pub returns : goal.returns
returns c = each_part_is_told
