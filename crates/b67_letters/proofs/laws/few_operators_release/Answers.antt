use Rattle.b67_letters.proofs.Mute.{few_operators_release}
use Rattle.b67_letters.proofs.laws.few_operators_release.Goals as goal

pub returns : goal.returns
returns c = few_operators_release
