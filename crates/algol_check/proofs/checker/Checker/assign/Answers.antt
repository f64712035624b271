use Rattle.algol_tree.specs.Image.{expr, variable}
use Rattle.algol_check.proofs.Stated.{assign_walks}
use Rattle.algol_check.proofs.checker.Checker.assign.Goals as goal

pub returns : goal.returns
returns c = λ begin listed.
    assign_walks c.args.scopes.now c.args.self.now c.assign.new.faults (variable c.args.v.now) (expr c.args.value.now) begin listed
    (c.assign.ensures listed)
