use Rattle.std.proofs.Common.{◌≡◌, drop}
use Rattle.algol_meaning.specs.Critical.{some_depends_on_any}
use Rattle.algol_world.specs.SeenWorld.{world_of}
use Rattle.algol_perform.specs.Going.{owned}
use Rattle.algol_perform.proofs.parts.some_depends_on_any.Given as goal

abbrev pub invariant-asking : goal.invariant-asking
invariant-asking l =
    some_depends_on_any ((world_of l.world).processes) (owned (drop l.own-index l.left))
    ≡ some_depends_on_any ((world_of l.world).processes) (owned l.left)
