use Rattle.b67_desk.specs.Answers.{by_all}
use Rattle.b67_desk.proofs.Answering.{run_answered}
use Rattle.b67_desk.proofs.top.answer_shared.Goals as goal

pub returns-in_ok-do_shared-in-Ok-Run : goal.returns-in_ok-do_shared-in-Ok-Run
returns-in_ok-do_shared-in-Ok-Run g c =
    run_answered by_all _ _ c.in-Ok-Run.job c.in_ok-do_shared-in-Ok-Run.field-0 (rw c.in-Ok-Run.field-0-is at c.in-Ok-Run.ensures).0
    c.in_ok-do_shared-in-Ok-Run.ensures
