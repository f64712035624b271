use Rattle.algol_tree.specs.Image.{program as plain}
use Rattle.b67_desk.proofs.Judged.{verdict_answered}
use Rattle.b67_desk.proofs.judging.judge_report.Goals as goal

pub returns : goal.returns
returns c =
    verdict_answered (plain c.args.checked.now.program) c.args.report.now c.in_ok-judge.field-0 c.tell_verdict.result c.in_ok-judge.ensures c.tell_verdict.ensures
