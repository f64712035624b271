use Rattle.b67_dump.proofs.Once.{one_answer}
use Rattle.b67_dump.proofs.dumps_have_one_answer.Goals as goal

pub returns : goal.returns
returns c = one_answer
