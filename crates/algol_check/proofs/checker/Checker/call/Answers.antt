use Rattle.algol_tree.specs.Image.{call}
use Rattle.algol_check.proofs.Stated.{call_walks}
use Rattle.algol_check.proofs.checker.Checker.call.Goals as goal

pub returns : goal.returns
returns c = λ begin listed.
    call_walks c.args.scopes.now c.args.self.now c.call.new.faults (call c.args.c.now) begin listed
    (c.call.ensures listed)
