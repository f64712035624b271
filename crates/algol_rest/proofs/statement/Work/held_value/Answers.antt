use Rattle.algol_cells.specs.SeenScope.{scoped}
use Rattle.algol_rest.proofs.statement.Work.held_value.Goals as goal

pub returns-in-Stepping : goal.returns-in-Stepping
returns-in-Stepping c = rw c.in-Stepping.is (c.stepped.ensures (scoped c.args.scopes.now))
