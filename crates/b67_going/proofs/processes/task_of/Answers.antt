use Rattle.b67_list.proofs.Truths.{false_true}
use Rattle.b67_going.proofs.Started.{without_task, has_task, no_task}
use Rattle.b67_going.proofs.processes.task_of.Goals as goal

pub returns-then-is_zero-clause-told : goal.returns-then-is_zero-clause-told
returns-then-is_zero-clause-told g c = λ img s e.
    without_task img c.args.regs.now c.args.word (c.is_zero.ensures.0 c.if-is_zero.true)

pub returns-in-Ok-clause-told : goal.returns-in-Ok-clause-told
returns-in-Ok-clause-told g c = λ img s e.
    has_task img c.args.regs.now c.args.word c.in-Ok.cell (λ z. false_true c.is_zero.result c.if-is_zero.false (c.is_zero.ensures.1 z)) (c.in-Ok.ensures.told img s e)

pub returns-in-Err-clause-told : goal.returns-in-Err-clause-told
returns-in-Err-clause-told g c = λ img s e.
    no_task img c.args.regs.now c.args.word c.in-Err.stop (λ z. false_true c.is_zero.result c.if-is_zero.false (c.is_zero.ensures.1 z)) (c.in-Err.ensures.told img s e)
