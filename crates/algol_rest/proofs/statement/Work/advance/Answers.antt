use Rattle.algol_cells.specs.SeenScope.{scoped}
use Rattle.algol_rest.proofs.statement.Work.advance.Goals as goal

pub returns-in-Rest : goal.returns-in-Rest
returns-in-Rest c = rw c.in-Rest.is (c.next_statement.ensures (scoped c.args.scopes.now))

pub returns-in-Events : goal.returns-in-Events
returns-in-Events c = rw c.in-Events.is (c.next_event.ensures (scoped c.args.scopes.now))
