use Rattle.std.proofs.Common.{rules}
use Rattle.algol_cells.specs.SeenScope.{scoped}
use Rattle.algol_rest_expr.proofs.expression.outward.Goals as goal

pub returns-in-Right : goal.returns-in-Right
returns-in-Right c = search (rules, c.calculated.ensures (scoped c.args.scopes.now))
