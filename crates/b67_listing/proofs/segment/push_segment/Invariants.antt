use Rattle.std.proofs.Common.{◌-◌, vec_len}
use Rattle.b67_listing.proofs.Filling.{Listed}
use Rattle.b67_listing.proofs.segment.push_segment.Given as goal

abbrev pub invariant-operators : goal.invariant-operators
invariant-operators l = Listed l.segment l.bytes.items l.at l.passed l.level l.initial.lines.items l.lines.items

abbrev pub decreases-operators : goal.decreases-operators
decreases-operators l = vec_len l.bytes - l.at
