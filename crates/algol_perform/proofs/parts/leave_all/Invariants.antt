use Rattle.std.proofs.Common.{◌≡◌, drop}
use Rattle.algol_meaning.specs.Instances.{leave}
use Rattle.algol_world.specs.SeenWorld.{world_of}
use Rattle.algol_perform.specs.Going.{owned}
use Rattle.algol_perform.proofs.parts.leave_all.Given as goal

abbrev pub invariant-leaving : goal.invariant-leaving
invariant-leaving l =
    (leave (world_of l.world) (owned (drop l.own-index l.left)) ≡ leave (world_of l.initial.world) (owned l.left))
    × (l.world.scopes ≡ l.initial.world.scopes)
