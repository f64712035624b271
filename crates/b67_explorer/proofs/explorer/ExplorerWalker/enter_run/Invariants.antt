use Rattle.std.proofs.Common.{◌≡◌, ℕ, ◌+◌, ◌-◌, ◌≤◌}
use Rattle.b67_outcomes.specs.Entering.{Repeats}
use Rattle.b67_explorer.specs.Entries.{EntriesFit}
use Rattle.b67_explorer.proofs.explorer.ExplorerWalker.enter_run.Given as goal

-- so many of the entries are performed
abbrev pub invariant-entries : goal.invariant-entries
invariant-entries g l =
    (l.self.machine.code ≡ l.fn.self.machine.code) × (l.done ≤ l.count)
    × Repeats l.fn.self.machine.code l.process l.done l.fn.self.machine.image l.self.machine.image
    × ((k : ℕ) → EntriesFit l.fn.self.machine (l.count + k) → EntriesFit l.self.machine (l.count - l.done + k))

abbrev pub decreases-entries : goal.decreases-entries
decreases-entries g l = l.count - l.done
