use Rattle.algol_tree.specs.Image.{program as plain}
use Rattle.b67_desk.specs.Judging.{TellsRaces}
use Rattle.b67_desk.proofs.Judged.{races_answered, unjust_answered}
use Rattle.b67_desk.proofs.judging.race_report.Goals as goal

pub returns-in-Just : goal.returns-in-Just
returns-in-Just c =
    races_answered (plain c.args.checked.now.program) c.args.report.now c.tell_races.result (rw c.in-Just.is at c.in_ok-verdict.ensures) c.tell_races.ensures

pub returns-in_default : goal.returns-in_default
returns-in_default c =
    let tree = plain c.args.checked.now.program in
    unjust_answered tree c.args.report.now (TellsRaces tree c.args.report.now) c.in_ok-verdict.verdict c.tell_verdict.result c.in_ok-verdict.ensures c.in_default.not-Just
    c.tell_verdict.ensures
