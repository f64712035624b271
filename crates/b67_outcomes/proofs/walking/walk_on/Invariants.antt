use Rattle.std.proofs.Common.{◌≡◌, ◌+◌, ◌-◌, ◌≤◌, length, take}
use Rattle.b67_outcomes.specs.Entering.{HasRoom}
use Rattle.b67_outcomes.specs.Finding.{IsAfter}
use Rattle.b67_outcomes.proofs.walking.walk_on.Given as goal

-- the entries of the path before this place are performed
abbrev pub invariant-entries : goal.invariant-entries
invariant-entries g l =
    (g.W.Walker.code l.walker ≡ g.W.Walker.code l.fn.walker) × (l.done ≤ length l.path)
    × IsAfter (g.W.Walker.code l.fn.walker) l.steps l.number (take l.done l.path) (g.W.Walker.image l.walker)
    × HasRoom (g.W.Walker.Room l.walker) (l.number + l.done)

abbrev pub decreases-entries : goal.decreases-entries
decreases-entries g l = length l.path - l.done
