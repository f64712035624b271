use Rattle.std.proofs.Common.{◌-◌, length}
use Rattle.b67_listing_reader.proofs.FormatLines.{FormatsSoFar}
use Rattle.b67_listing_reader.proofs.read_formats.Given as goal

abbrev pub invariant-formats : goal.invariant-formats
invariant-formats l = FormatsSoFar l.lines l.at l.next l.formats.items

abbrev pub decreases-formats : goal.decreases-formats
decreases-formats l = length l.lines - l.next
