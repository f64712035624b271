use Rattle.b67_desk.specs.Answers.{by_one}
use Rattle.b67_desk.proofs.Answering.{report_answers}
use Rattle.b67_desk.proofs.top.do_alone.Goals as goal

pub returns : goal.returns
returns c = report_answers by_one c.args.job c.in_ok-run_report.field-0 c.tell.result c.in_ok-run_report.ensures c.tell.ensures
