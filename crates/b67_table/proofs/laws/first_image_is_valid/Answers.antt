use Rattle.b67_table.proofs.FirstValid.{first_is_valid}
use Rattle.b67_table.proofs.laws.first_image_is_valid.Goals as goal

pub returns : goal.returns
returns c = first_is_valid
