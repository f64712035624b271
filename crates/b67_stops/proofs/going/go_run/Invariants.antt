use Rattle.std.proofs.Common.{ℕ, List, ◌++◌, replicate}
use Rattle.b67_commands.specs.declared.command.Command.{Command}
use Rattle.b67_stops.specs.Answering.{IsAt}
use Rattle.b67_stops.proofs.going.go_run.Given as goal

-- so many of the run's entries are left
abbrev pub invariant-stops : goal.invariant-stops
invariant-stops g l =
    ((given rest : List ℕ) → IsAt (g.W.Walker.stands l.fn.walker) (g.W.Walker.goes l.fn.walker) (g.W.Walker.answers l.fn.walker) (g.W.Walker.done l.fn.walker) given
    (replicate l.run.times l.run.process ++ rest) l.commands l.at l.fn.stop.k l.fn.stop.next l.fn.texts.items
    → IsAt (g.W.Walker.stands l.walker) (g.W.Walker.goes l.walker) (g.W.Walker.answers l.walker) (g.W.Walker.done l.walker) given
    (replicate l.left l.run.process ++ rest) l.commands l.at l.stop.k l.stop.next l.texts.items)
    × ((h : List ℕ) (c : Command) (t : List ℕ) → g.W.Walker.answers l.walker h c t → g.W.Walker.answers l.fn.walker h c t)

abbrev pub decreases-stops : goal.decreases-stops
decreases-stops g l = l.left
