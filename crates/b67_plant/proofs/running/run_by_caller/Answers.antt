use Rattle.std.proofs.Common.{refl}
use Rattle.b67_plant.proofs.running.run_by_caller.Goals as goal

pub run_named_alone-requires-clause-rule : goal.run_named_alone-requires-clause-rule
run_named_alone-requires-clause-rule g c = λ n takes. refl
