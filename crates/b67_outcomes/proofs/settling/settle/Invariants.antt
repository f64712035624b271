use Rattle.std.proofs.Common.{◌≡◌, ◌+◌, ◌-◌, ◌≤◌, List, ℕ, ◌++◌, length, reverse}
use Rattle.b67_outcomes.specs.Entering.{HasRoom}
use Rattle.b67_outcomes.specs.Finding.{IsAfter}
use Rattle.b67_outcomes.specs.Settling.{ImageSettles}
use Rattle.b67_outcomes.proofs.settling.settle.Given as goal

-- the machine stands after the path, which goes on by what was settled
abbrev pub invariant-entries : goal.invariant-entries
invariant-entries g l =
    (g.W.Walker.code l.walker ≡ g.W.Walker.code l.fn.walker)
    × IsAfter (g.W.Walker.code l.fn.walker) l.steps l.number l.path.items (g.W.Walker.image l.walker)
    × ((more : List ℕ) × (l.path.items ≡ l.fn.path.items ++ more)
    × ImageSettles (g.W.Walker.code l.fn.walker) (g.W.Walker.Local (g.W.Walker.code l.fn.walker)) (g.W.Walker.image l.fn.walker) (reverse more) (g.W.Walker.image l.walker))
    × HasRoom (g.W.Walker.Room l.walker) (l.number + length l.path.items) × (length l.path.items ≤ length l.fn.path.items + l.count)
    × (l.count ≤ l.most)

abbrev pub decreases-entries : goal.decreases-entries
decreases-entries g l = l.most - l.count
