use Rattle.std.proofs.Common.{◌-◌, length}
use Rattle.b67_listing_reader.specs.Reading.{TellSoFar}
use Rattle.b67_listing_reader.proofs.operators.read_operators.Given as goal

abbrev pub invariant-operators : goal.invariant-operators
invariant-operators l = TellSoFar l.lines l.at l.most l.builder.operators l.next

abbrev pub decreases-operators : goal.decreases-operators
decreases-operators l = length l.lines - l.next
