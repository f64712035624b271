use Rattle.std.proofs.Common.{take}
use Rattle.b67_listing.specs.Listings.{AddsSegments}
use Rattle.b67_listing.proofs.push_segments.Given as goal

abbrev pub invariant-segments : goal.invariant-segments
invariant-segments l = AddsSegments 0 (take l.number l.segment-items) l.initial.lines.items l.lines.items
