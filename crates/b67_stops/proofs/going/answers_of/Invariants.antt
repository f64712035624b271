use Rattle.std.proofs.Common.{ℕ, List, drop}
use Rattle.b67_schedule.specs.Schedules.{entries}
use Rattle.b67_commands.specs.declared.command.Command.{Command}
use Rattle.b67_stops.specs.Answering.{IsAt}
use Rattle.b67_stops.proofs.going.answers_of.Given as goal

-- these runs are left
abbrev pub invariant-runs : goal.invariant-runs
invariant-runs g l =
    IsAt (g.W.Walker.stands l.walker) (g.W.Walker.goes l.walker) (g.W.Walker.answers l.walker) (g.W.Walker.done l.walker) (entries l.fn.runs)
    (entries (drop l.run-index l.fn.runs)) l.commands l.at l.stop.k l.stop.next l.texts.items
    × ((h : List ℕ) (c : Command) (t : List ℕ) → g.W.Walker.answers l.walker h c t → g.W.Walker.answers l.fn.walker h c t)
