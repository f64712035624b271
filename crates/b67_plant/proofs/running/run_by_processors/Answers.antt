use Rattle.std.proofs.Common.{refl}
use Rattle.b67_plant.proofs.running.run_by_processors.Goals as goal

pub run_named-requires-clause-rule : goal.run_named-requires-clause-rule
run_named-requires-clause-rule g c = λ a b n takes. refl
