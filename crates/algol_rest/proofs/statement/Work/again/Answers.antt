use Rattle.algol_cells.specs.SeenScope.{scoped}
use Rattle.algol_rest.proofs.statement.Work.again.Goals as goal

pub returns-in-Count : goal.returns-in-Count
returns-in-Count c = rw c.in-Count.is (c.count_on.ensures (scoped c.args.scopes.now))
