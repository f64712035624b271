use Rattle.b67_desk.specs.Answers.{by_one}
use Rattle.b67_desk.proofs.top.desk_alone.Goals as goal

pub returns : goal.returns
returns g c = c.write_answer.ensures by_one _ _ c.answer_alone-answer.ensures
