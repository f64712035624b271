use Rattle.algol_tree.specs.Image.{expr}
use Rattle.algol_sites.proofs.Statements.{typed_notes}
use Rattle.algol_sites.proofs.statement.typed.Goals as goal

pub returns : goal.returns
returns c = typed_notes c.args.scopes.now c.args.kind (expr c.args.e.now) c.args.faults.now.first c.want.new.faults.first c.expression.new.faults.first c.want.ensures c.expression.ensures
