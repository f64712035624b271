use Rattle.algol_check.proofs.Stated.{event_walks}
use Rattle.algol_check.proofs.checker.Checker.event.Goals as goal

pub returns : goal.returns
returns c = λ act begin listed.
    event_walks c.args.scopes.now c.args.self.now c.event.new.faults act c.args.e.now begin listed
    (c.event.ensures act listed)
