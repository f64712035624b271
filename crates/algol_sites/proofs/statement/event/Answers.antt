use Rattle.algol_sites.proofs.Statements.{event_notes}
use Rattle.algol_sites.proofs.statement.event.Goals as goal

pub returns : goal.returns
returns c = λ act listed. event_notes c.args.scopes.now act c.args.e.now listed c.args.faults.now.first c.want_event.new.faults.first c.want_event.ensures
