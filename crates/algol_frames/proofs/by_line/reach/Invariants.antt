use Rattle.std.proofs.Common.{◌≡◌, ◌+◌, ◌-◌}
use Rattle.std.specs.Vec.{vec_len}
use Rattle.algol_tree.specs.declared.token.Spot.{Spot}
use Rattle.algol_frames.specs.ByLine.{number_at_place}
use Rattle.algol_frames.proofs.by_line.reach.Given as goal

abbrev pub invariant-reaching : goal.invariant-reaching
invariant-reaching l = (q : Spot) → number_at_place l.lines.items q ≡ number_at_place l.initial.lines.items q

abbrev pub decreases-reaching : goal.decreases-reaching
decreases-reaching l = l.line + 1 - vec_len l.lines
