use Rattle.algol_check.proofs.Bodied.{enters_procedure}
use Rattle.algol_check.proofs.checker.Checker.enter.Goals as goal

pub returns-clause-enters : goal.returns-clause-enters
returns-clause-enters c =
    enters_procedure c.args.self.now.place c.open.new.self c.args.h.now c.in_ok-open.ensures.block c.in_ok-open.ensures.around c.in_ok-open.ensures.placed
