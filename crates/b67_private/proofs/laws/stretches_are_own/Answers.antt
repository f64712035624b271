use Rattle.b67_private.proofs.Plains.{stretches_are_own}
use Rattle.b67_private.proofs.laws.stretches_are_own.Goals as goal

pub returns : goal.returns
returns c = stretches_are_own
