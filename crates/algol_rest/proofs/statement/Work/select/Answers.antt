use Rattle.algol_cells.specs.SeenScope.{scoped}
use Rattle.algol_rest.proofs.statement.Work.select.Goals as goal

pub returns : goal.returns
returns c = rw (c.in_ok-push_nth.ensures (scoped c.args.scopes.now)) c.go_on.ensures
