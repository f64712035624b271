use Rattle.b67_store.proofs.StoreLaws.{by_number}
use Rattle.b67_store.proofs.numbers_stand_alone.Goals as goal

pub returns-clause-stacks : goal.returns-clause-stacks
returns-clause-stacks c = by_number

pub returns-clause-rows : goal.returns-clause-rows
returns-clause-rows c = by_number
