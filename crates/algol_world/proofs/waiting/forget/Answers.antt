use Rattle.std.proofs.Common.{map}
use Rattle.algol_instances.specs.SeenInstance.{instance}
use Rattle.algol_world.proofs.Several.{forget_next}
use Rattle.algol_world.proofs.waiting.forget.Goals as goal

pub leaving-preserved : goal.leaving-preserved
leaving-preserved c =
    forget_next c.args.number c.args.rs.now c.leaving.r-index c.r-item.result (map instance c.leaving.instances) _ _ c.leaving-test.true c.r-item.is
    c.leave_event.ensures c.leaving.invariant
