use Rattle.algol_sites.proofs.Statements.{go_to_notes}
use Rattle.algol_sites.proofs.statement.go_to.Goals as goal

pub returns : goal.returns
returns c = λ listed. go_to_notes c.args.scopes.now c.args.name.now listed c.args.faults.now.first c.want_name.new.faults.first c.want_name.ensures
