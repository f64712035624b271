use Rattle.std.proofs.Common.{refl}
use Rattle.examples.proofs.rules.told.Goals as goal

pub push_run-requires-clause-rule : goal.push_run-requires-clause-rule
push_run-requires-clause-rule g c = λ n takes. refl
