use Rattle.std.proofs.Common.{◌-◌, ◌≤◌, length, take}
use Rattle.b67_outcomes.specs.Finding.{HoldsPath}
use Rattle.b67_outcomes.proofs.keep.add_steps.Given as goal

-- the entries of the path before this place have their steps
abbrev pub invariant-entries : goal.invariant-entries
invariant-entries l = (l.done ≤ length l.path) × HoldsPath l.fn.steps.items l.number (take l.done l.path) l.at l.steps.items

abbrev pub decreases-entries : goal.decreases-entries
decreases-entries l = length l.path - l.done
