use Rattle.std.proofs.Common.{rules, ◌≡◌}
use Rattle.algol_meaning.specs.Rest as rest
use Rattle.algol_meaning.specs.Settle.{settle}
use Rattle.algol_meaning.specs.SeenTree.{expr}
use Rattle.algol_cells.specs.SeenValue.{value}
use Rattle.algol_cells.specs.SeenScope.{scoped}
use Rattle.algol_rest.proofs.statement.Work.test_for.Goals as goal

pub returns-in-Value : goal.returns-in-Value
returns-in-Value c =
    let q : settle (scoped c.args.scopes.now) (expr c.args.step.now) ≡ rest.val (value c.in-Value.by) = search (rules) in
    λ n e last same. rw q (c.turn_for.ensures (scoped c.args.scopes.now) n e (expr c.args.step.now) last same)
