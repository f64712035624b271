use Rattle.algol_front_laws.proofs.OneAnswer.{one_answer}
use Rattle.algol_front_laws.proofs.each_text_has_one_answer.Goals as goal

pub returns : goal.returns
returns c = one_answer
