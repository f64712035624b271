use Rattle.std.proofs.Common.{◌≡◌, ◌+◌, ◌<◌, ◌^◌}
use Rattle.b67_stands.specs.Shared.{IsFree}
use Rattle.b67_plant.proofs.floor.Floor.turns.Given as goal

-- nobody is out with the processor, and so many acts are counted
abbrev pub invariant-turns : goal.invariant-turns
invariant-turns g l =
    IsFree l.me l.self
    × (l.seat.count ≡ l.initial.seat.count + l.made)
    × (l.seat.count < 2 ^ 64)
    × (l.seat.left ≡ l.initial.seat.left)
    × (l.seat.mark.place ≡ l.initial.seat.mark.place)

abbrev pub decreases-turns : goal.decreases-turns
decreases-turns g l = l.left
