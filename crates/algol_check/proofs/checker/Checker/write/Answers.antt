use Rattle.algol_tree.specs.Image.{exprs}
use Rattle.algol_check.proofs.Stated.{write_walks}
use Rattle.algol_check.proofs.checker.Checker.write.Goals as goal

pub returns : goal.returns
returns c = λ begin listed.
    write_walks c.args.scopes.now c.args.self.now c.write.new.faults c.args.file.now c.args.spot c.args.phrases.now (exprs c.args.items.now) begin listed
    (c.write.ensures listed)
