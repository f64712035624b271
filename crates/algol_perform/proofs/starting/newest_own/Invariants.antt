use Rattle.std.proofs.Common.{◌≡◌, drop}
use Rattle.algol_world.specs.SeenWorld.{world_of}
use Rattle.algol_perform.specs.Path.{newest_own}
use Rattle.algol_perform.proofs.starting.newest_own.Given as goal

abbrev pub invariant-choosing : goal.invariant-choosing
invariant-choosing l =
    newest_own (world_of l.world) l.process l.below l.newest (drop l.number-index l.wanted)
    ≡ newest_own (world_of l.world) l.process l.below l.above l.wanted
