use Rattle.algol_check.proofs.Stated.{go_to_walks}
use Rattle.algol_check.proofs.checker.Checker.go_to.Goals as goal

pub returns : goal.returns
returns c = λ begin listed.
    go_to_walks c.args.scopes.now c.args.self.now c.go_to.new.faults c.args.name.now begin listed
    (c.go_to.ensures listed)
