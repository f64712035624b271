use Rattle.std.proofs.Common.{◌+◌, refl}
use Rattle.b67_make.specs.Made.{group}
use Rattle.b67_make.proofs.Each.{each_first}
use Rattle.b67_make.proofs.push_groups.Goals as goal

pub groups-preserved : goal.groups-preserved
groups-preserved c =
    each_first (group c.args.n) _ _ _ c.groups.g (c.groups.g + 1) refl c.groups.invariant c.in_ok-push_group.ensures
