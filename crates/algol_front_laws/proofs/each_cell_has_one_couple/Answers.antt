use Rattle.algol_front_laws.proofs.Sources.{cells_have_one}
use Rattle.algol_front_laws.proofs.each_cell_has_one_couple.Goals as goal

pub returns : goal.returns
returns c = cells_have_one
