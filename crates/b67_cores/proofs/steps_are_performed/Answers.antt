use Rattle.b67_cores.proofs.Performing.{steps_are_performed, steps_come_to_limit}
use Rattle.b67_cores.proofs.steps_are_performed.Goals as goal

pub returns-clause-steps : goal.returns-clause-steps
returns-clause-steps c = steps_are_performed

pub returns-clause-limit : goal.returns-clause-limit
returns-clause-limit c = steps_come_to_limit
