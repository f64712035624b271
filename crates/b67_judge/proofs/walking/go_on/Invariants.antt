use Rattle.std.proofs.Common.{◌≡◌, ◌≤◌, ◌-◌}
use Rattle.algol_meaning.specs.World.{World}
use Rattle.algol_cells.specs.SeenScope.{scoped}
use Rattle.algol_world.specs.SeenWorld.{world_of}
use Rattle.algol_lean.specs.Beside.{RunsBeside}
use Rattle.b67_judge.specs.Walked.{WentBeside}
use Rattle.b67_judge.proofs.walking.go_on.Given as goal

abbrev pub invariant-going : goal.invariant-going
invariant-going l =
    ((w : World) → RunsBeside (scoped l.initial.world.scopes) w (world_of l.initial.world) → WentBeside (scoped l.initial.world.scopes) w l.went l.process (world_of l.world))
    × (l.went ≤ l.times) × (l.world.scopes ≡ l.initial.world.scopes)

abbrev pub decreases-going : goal.decreases-going
decreases-going l = l.times - l.went
