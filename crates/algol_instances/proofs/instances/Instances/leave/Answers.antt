use Rattle.std.proofs.Common.{map}
use Rattle.algol_instances.specs.SeenInstance.{instance}
use Rattle.algol_instances.proofs.Counting.{leave_adjusts}
use Rattle.algol_instances.proofs.instances.Instances.leave.Goals as goal

pub adjusted-self-inside-requires : goal.adjusted-self-inside-requires
adjusted-self-inside-requires c =
    leave_adjusts (map instance c.self.inside.list) (map instance c.leave.new.instances) c.args.number c.self.inside.live_elements
    c.live_at-gone.result c.leave.ensures c.self.invariant c.live_at-gone.ensures
