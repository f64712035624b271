use Rattle.std.proofs.Common.{subst}
use Rattle.b67_stands.specs.Running.{Running}
use Rattle.b67_stands.specs.Shared.{IsFree}
use Rattle.b67_plant.proofs.floor.Floor.take.Goals as goal

pub take_new-requires-clause-free : goal.take_new-requires-clause-free
take_new-requires-clause-free g c = subst (λ (s : Running). IsFree c.args.me s) c.self.view_is (c.out_with.ensures.free c.in_default.is)
