use Rattle.b67_desk.specs.Answers.{by_all}
use Rattle.b67_desk.proofs.Answering.{report_answers, one_serves, several_report}
use Rattle.b67_desk.proofs.top.do_shared.Goals as goal

pub returns-then-job-eq1 : goal.returns-then-job-eq1
returns-then-job-eq1 g c = one_serves by_all c.args.job c.do_alone.result c.if-job-eq1.true c.do_alone.ensures

pub returns : goal.returns
returns g c =
    let report = c.in_ok-share_report.field-0 in
    report_answers by_all c.args.job report c.tell.result
    (several_report c.args.job report c.if-job-eq1.false c.in_ok-share_report.ensures) c.tell.ensures
