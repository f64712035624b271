use Rattle.std.proofs.Common.{◌≤◌, ◌-◌, length, take}
use Rattle.b67_listing.specs.Listings.{SegmentsText}
use Rattle.b67_listing_reader.proofs.read_segments.Given as goal

abbrev pub invariant-segments : goal.invariant-segments
invariant-segments l = record {
  within : l.at ≤ length l.lines;
  listed : SegmentsText 0 l.segments.items (take l.at l.lines);
}

abbrev pub decreases-segments : goal.decreases-segments
decreases-segments l = length l.lines - l.at
