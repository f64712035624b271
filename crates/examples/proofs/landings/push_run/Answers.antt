use Rattle.std.proofs.Common.{refl}
use Rattle.examples.proofs.landings.push_run.Goals as goal

pub push_plant-requires-clause-rule : goal.push_plant-requires-clause-rule
push_plant-requires-clause-rule g c = λ at given length takes. refl
