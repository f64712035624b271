use Rattle.std.proofs.Common.{◌≡◌, ℕ, List, ◌-◌, ◌<◌, ◌≤◌}
use Rattle.b67_outcomes.specs.Entering.{HasRoom}
use Rattle.b67_outcomes.specs.Finding.{History, FoundGrows, NumberIsAt, IsSearched, IsFollowed}
use Rattle.b67_outcomes.specs.Kept.{IsReady, IsTree}
use Rattle.b67_outcomes.proofs.search.expand.Given as goal

-- the machine stands at the state, and the processes before this one are followed
abbrev pub invariant-processes : goal.invariant-processes
invariant-processes g l =
    (g.W.Walker.code l.walker ≡ g.W.Walker.code l.fn.walker) × (g.W.Walker.code l.second ≡ g.W.Walker.code l.fn.second)
    × FoundGrows l.fn.found l.found × IsSearched (g.W.Walker.code l.fn.walker) l.most l.found
    × NumberIsAt (g.W.Walker.code l.fn.walker) l.found.steps.items l.number (g.W.Walker.image l.walker)
    × ((history : List ℕ) → History l.fn.found.steps.items l.number history → (p : ℕ) → 1 ≤ p → p < l.process
    → IsFollowed (g.W.Walker.code l.fn.walker) (g.W.Walker.Local (g.W.Walker.code l.fn.walker)) l.found l.number history p)
    × (IsTree (g.W.Walker.code l.fn.walker) (g.W.Walker.Local (g.W.Walker.code l.fn.walker)) l.found × IsReady l.found l.number l.process)
    × (l.process ≤ l.last) × HasRoom (g.W.Walker.Room l.walker) l.number

abbrev pub decreases-processes : goal.decreases-processes
decreases-processes g l = l.last - l.process
