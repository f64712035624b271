use Rattle.b67_console.proofs.Alike.{again_the_same}
use Rattle.b67_console.proofs.the_same_is_shown_again.Goals as goal

pub returns : goal.returns
returns c = again_the_same
