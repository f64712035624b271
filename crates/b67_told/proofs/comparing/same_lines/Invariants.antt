use Rattle.std.proofs.Common.{◌≡◌, ◌≤◌, length, drop}
use Rattle.b67_told.proofs.comparing.same_lines.Given as goal

-- the lines from this place on are the same
abbrev pub invariant-lines : goal.invariant-lines
invariant-lines l = (length l.lines ≡ length l.others) × (l.left ≤ length l.lines) × (drop l.left l.lines ≡ drop l.left l.others)

abbrev pub decreases-lines : goal.decreases-lines
decreases-lines l = l.left
