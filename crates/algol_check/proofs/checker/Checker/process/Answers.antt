use Rattle.algol_tree.specs.Image.{call}
use Rattle.algol_check.proofs.Stated.{process_walks}
use Rattle.algol_check.proofs.checker.Checker.process.Goals as goal

pub returns : goal.returns
returns c = λ begin listed.
    process_walks c.args.scopes.now c.args.self.now c.process.new.faults (call c.args.c.now) c.args.task.now begin listed
    (c.process.ensures listed)
