use Rattle.b67_desk.proofs.Executing.{one_answer}
use Rattle.b67_desk.proofs.texts_of_code_have_one_answer.Goals as goal

pub returns : goal.returns
returns c = one_answer
