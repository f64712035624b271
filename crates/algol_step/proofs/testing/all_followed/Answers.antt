use Rattle.std.proofs.Common.{map, ap, ◌∙◌}
use Rattle.algol_cells.specs.SeenCell.{reference}
use Rattle.algol_cells.specs.SeenScope.{scoped}
use Rattle.algol_world.specs.SeenWorld.{world_of}
use Rattle.algol_step.proofs.Waiting.{followed_more}
use Rattle.algol_step.proofs.testing.all_followed.Goals as goal

pub following-preserved : goal.following-preserved
following-preserved c =
    ap (map reference) c.in_ok-push.ensures.items
    ∙ followed_more (scoped c.args.world.now.scopes) (world_of c.args.world.now) c.args.part.now.instance c.args.es.now c.following.e-index c.e-item.result
    c.following.rs.items c.followed.result c.here.result c.following-test.true c.e-item.is c.followed.ensures c.here.ensures c.following.invariant
