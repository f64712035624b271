use Rattle.algol_sites.proofs.Statements.{process_notes}
use Rattle.algol_sites.proofs.statement.process.Goals as goal

pub returns : goal.returns
returns c = λ listed.
    process_notes c.args.scopes.now c.args.c.now c.args.task.now listed c.args.faults.now.first c.started.new.faults.first c.actuals.new.faults.first c.started.ensures
    c.actuals.ensures
