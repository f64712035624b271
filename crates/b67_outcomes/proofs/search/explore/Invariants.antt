use Rattle.std.proofs.Common.{◌≡◌, ◌-◌, ◌≤◌, false, length}
use Rattle.std.specs.Prelude.{IfSome}
use Rattle.b67_table.specs.Beginning.{first_image}
use Rattle.b67_outcomes.specs.Entering.{HasRoom}
use Rattle.b67_outcomes.specs.Finding.{IsArrived, NumberIsAt, IsSearched}
use Rattle.b67_outcomes.specs.Kept.{AreNotExpanded, IsTree}
use Rattle.b67_outcomes.proofs.Closing.{AreExpanded}
use Rattle.b67_outcomes.proofs.search.explore.Given as goal

-- the states before this one are expanded
abbrev pub invariant-states : goal.invariant-states
invariant-states g l =
    (g.W.Walker.code l.walker ≡ g.W.Walker.code l.fn.walker) × (g.W.Walker.code l.second ≡ g.W.Walker.code l.fn.second)
    × IsSearched (g.W.Walker.code l.fn.walker) l.most l.found
    × (l.found.cut ≡ false → IsArrived (g.W.Walker.code l.fn.walker) (g.W.Walker.Local (g.W.Walker.code l.fn.walker)) l.found first_image)
    × AreExpanded (g.W.Walker.code l.fn.walker) (g.W.Walker.Local (g.W.Walker.code l.fn.walker)) l.found l.done
    × IfSome l.at (λ number. NumberIsAt (g.W.Walker.code l.fn.walker) l.found.steps.items number (g.W.Walker.image l.walker))
    × IsTree (g.W.Walker.code l.fn.walker) (g.W.Walker.Local (g.W.Walker.code l.fn.walker)) l.found × AreNotExpanded l.found l.done
    × (1 ≤ length l.found.states.items) × IfSome l.at (HasRoom (g.W.Walker.Room l.walker))

abbrev pub decreases-states : goal.decreases-states
decreases-states g l = l.most - l.done
