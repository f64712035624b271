use Rattle.std.proofs.Common.{◌≡◌, ◌-◌, ◌≤◌, length, drop}
use Rattle.std.specs.List.{All}
use Rattle.b67_outcomes.specs.Entering.{HasRoom, IsProcessNumber, HistoryLeadsTo}
use Rattle.b67_outcomes.proofs.walking.perform.Given as goal

-- the entries from this place on are performed
abbrev pub invariant-runs : goal.invariant-runs
invariant-runs g l =
    (g.W.Walker.code l.walker ≡ g.W.Walker.code l.fn.walker) × (l.left ≤ length l.history)
    × HistoryLeadsTo (g.W.Walker.code l.fn.walker) (drop l.left l.history) (g.W.Walker.image l.walker) × All IsProcessNumber (drop l.left l.history)
    × HasRoom (g.W.Walker.Room l.walker) (length l.history - l.left)

abbrev pub decreases-runs : goal.decreases-runs
decreases-runs g l = l.left
