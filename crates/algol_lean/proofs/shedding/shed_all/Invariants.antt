use Rattle.std.proofs.Common.{◌≡◌, drop}
use Rattle.algol_world.specs.SeenWorld.{world_of}
use Rattle.algol_perform.specs.Going.{owned}
use Rattle.algol_lean.specs.Shed.{all_shed}
use Rattle.algol_lean.proofs.shedding.shed_all.Given as goal

abbrev pub invariant-shedding : goal.invariant-shedding
invariant-shedding l =
    (all_shed (world_of l.world) (owned (drop l.number-index l.numbers)) ≡ all_shed (world_of l.initial.world) (owned l.numbers))
    × (l.world.scopes ≡ l.initial.world.scopes)
