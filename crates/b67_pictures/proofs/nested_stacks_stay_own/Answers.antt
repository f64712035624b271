use Rattle.b67_pictures.proofs.Concluding.{nested_stacks_stay_own}
use Rattle.b67_pictures.proofs.nested_stacks_stay_own.Goals as goal

pub returns : goal.returns
returns c = nested_stacks_stay_own
