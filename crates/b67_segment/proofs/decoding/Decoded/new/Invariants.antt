use Rattle.std.proofs.Common.{◌≡◌, length}
use Rattle.b67_segment.proofs.DecodedPlaces.{AreBegun}
use Rattle.b67_segment.proofs.decoding.Decoded.new.Given as goal

abbrev pub invariant-decoding : goal.invariant-decoding
invariant-decoding l = record {
  size : length l.places.items ≡ l.index;
  begun : AreBegun l.fn.code l.fn.segment l.fn.level l.places.items;
}
