use Rattle.algol_sites.proofs.Places.{standings_done}
use Rattle.algol_sites.proofs.label.check_standings.Goals as goal

pub returns-after-again : goal.returns-after-again
returns-after-again c =
    standings_done c.args.declared c.args.standings.now c.in-Some.field-0-0.now c.in-Some.again.now c.again.standing-index c.args.faults.now.first c.check_home.new.faults.first
    c.again.faults.first c.in-Some.ensures.cases.0 c.check_home.ensures c.again-test.false c.again.invariant
