use Rattle.algol_sites.proofs.Statements.{assign_notes}
use Rattle.algol_sites.proofs.statement.assign.Goals as goal

pub returns : goal.returns
returns c = λ listed.
    assign_notes c.args.scopes.now c.args.place.now c.args.v.now c.args.value.now listed c.args.faults.now.first c.left_side.new.faults.first c.subscripts.new.faults.first
    c.expression.new.faults.first c.left_side.ensures c.subscripts.ensures c.expression.ensures
