use Rattle.std.proofs.Common.{◌≡◌, drop}
use Rattle.algol_meaning.specs.World.{set_all_able}
use Rattle.algol_world.specs.SeenWorld.{world_of}
use Rattle.algol_world.proofs.world.World.release.Given as goal

abbrev pub invariant-releasing : goal.invariant-releasing
invariant-releasing l =
    (set_all_able (world_of l.self) (drop l.number-index l.numbers) ≡ set_all_able (world_of l.initial.self) l.numbers)
    × (l.self.scopes ≡ l.initial.self.scopes)
