use Rattle.algol_tree.specs.Image.{expr}
use Rattle.algol_sites.proofs.Statements.{counting_notes}
use Rattle.algol_sites.proofs.statement.counting.Goals as goal

pub returns : goal.returns
returns c =
    counting_notes c.args.scopes.now c.args.v.now (expr c.args.x.now) (expr c.args.step.now) (expr c.args.last.now) c.args.faults.now.first c.control.new.faults.first
    c.expression.new.faults.first c.expression-2.new.faults.first c.expression-3.new.faults.first c.control.ensures c.expression.ensures c.expression-2.ensures c.expression-3.ensures
