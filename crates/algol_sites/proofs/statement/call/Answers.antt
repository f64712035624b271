use Rattle.algol_sites.proofs.Statements.{call_notes}
use Rattle.algol_sites.proofs.statement.call.Goals as goal

pub returns : goal.returns
returns c = λ listed.
    call_notes c.args.scopes.now c.args.c.now listed c.args.faults.now.first c.called.new.faults.first c.actuals.new.faults.first c.called.ensures c.actuals.ensures
