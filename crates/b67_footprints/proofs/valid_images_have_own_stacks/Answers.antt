use Rattle.b67_footprints.proofs.Apart.{valid_images_have_own_stacks}
use Rattle.b67_footprints.proofs.valid_images_have_own_stacks.Goals as goal

pub returns : goal.returns
returns c = valid_images_have_own_stacks
