use Rattle.std.specs.Prelude.{option_copied}
use Rattle.algol_tree.specs.Image.{program as plain}
use Rattle.b67_report.specs.declared.Report.{Report}
use Rattle.b67_desk.specs.Judging.{OrUnjust, SaysJust}
use Rattle.b67_desk.proofs.Judged.{told_answered, bad_answered}
use Rattle.b67_desk.proofs.judging.answer_judge.Goals as goal

pub returns-in-Told : goal.returns-in-Told
returns-in-Told c =
    let tree = plain c.args.checked.now.program in
    told_answered (option_copied c.args.text) c.args.input (λ (r : Report). OrUnjust tree r SaysJust) c.in-Told.report c.judge_report.result
    (rw c.in-Told.is at c.in_ok-report.ensures).0 c.judge_report.ensures

pub returns-in-Bad : goal.returns-in-Bad
returns-in-Bad c =
    let tree = plain c.args.checked.now.program in
    bad_answered (option_copied c.args.text) c.args.input (λ (r : Report). OrUnjust tree r SaysJust) c.in-Bad.answer
    (rw c.in-Bad.is at c.in_ok-report.ensures)

pub judge_report-requires : goal.judge_report-requires
judge_report-requires c = (rw c.in-Told.is at c.in_ok-report.ensures).1
