use Rattle.std.proofs.Common.{◌≡◌, ◌-◌, drop, length}
use Rattle.algol_world.specs.SeenWorld.{world_of}
use Rattle.algol_lean.specs.Shed.{without_arrays}
use Rattle.algol_lean.proofs.GivenBack.{cells_of}
use Rattle.algol_lean.proofs.shedding.shed.Given as goal

abbrev pub invariant-shedding : goal.invariant-shedding
invariant-shedding l =
    (without_arrays (world_of l.world) l.number (drop l.at (cells_of (world_of l.world) l.number))
    ≡ without_arrays (world_of l.initial.world) l.number (cells_of (world_of l.initial.world) l.number))
    × (l.world.scopes ≡ l.initial.world.scopes)

abbrev pub decreases-shedding : goal.decreases-shedding
decreases-shedding l = length (cells_of (world_of l.world) l.number) - l.at
