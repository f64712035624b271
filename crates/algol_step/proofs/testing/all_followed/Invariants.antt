use Rattle.std.proofs.Common.{◌≡◌, map, take}
use Rattle.algol_cells.specs.SeenCell.{reference}
use Rattle.algol_cells.specs.SeenScope.{scoped}
use Rattle.algol_rest_expr.specs.SeenExpression.{event_names_of}
use Rattle.algol_world.specs.SeenWorld.{world_of}
use Rattle.algol_effect.specs.Effects.{followed_in}
use Rattle.algol_step.proofs.testing.all_followed.Given as goal

abbrev pub invariant-following : goal.invariant-following
invariant-following l =
    map reference l.rs.items ≡ followed_in (scoped l.world.scopes) (world_of l.world) l.part.instance (event_names_of (take l.e-index l.es))
