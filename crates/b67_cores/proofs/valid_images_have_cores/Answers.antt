use Rattle.b67_cores.proofs.Having.{valid_images_have_cores}
use Rattle.b67_cores.proofs.valid_images_have_cores.Goals as goal

pub returns : goal.returns
returns c = valid_images_have_cores
