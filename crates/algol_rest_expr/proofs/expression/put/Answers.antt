use Rattle.std.proofs.Common.{rules}
use Rattle.algol_cells.specs.SeenScope.{scoped}
use Rattle.algol_rest_expr.proofs.expression.put.Goals as goal

pub returns : goal.returns
returns c = search (rules, c.filled.ensures (scoped c.args.scopes.now))
