use Rattle.b67_letters.proofs.Lettered.{actions_have_letters}
use Rattle.b67_letters.proofs.laws.actions_have_letters.Goals as goal

pub returns : goal.returns
returns c = actions_have_letters
