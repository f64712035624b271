use Rattle.b67_private.proofs.ValidParts.{valid_part}
use Rattle.b67_private.proofs.laws.parts_of_valid_images.Goals as goal

pub returns : goal.returns
returns c = valid_part
