use Rattle.b67_desk.specs.Answers.{by_all}
use Rattle.b67_desk.proofs.top.desk.Goals as goal

pub returns : goal.returns
returns g c = c.write_answer.ensures by_all _ _ c.answer_shared-answer.ensures
