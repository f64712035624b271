use Rattle.std.proofs.Common.{◌≡◌, ◌≤◌, drop, length}
use Rattle.b67_parcel.proofs.copying.copy_part.Given as goal

abbrev pub invariant-copying : goal.invariant-copying
invariant-copying l = record {
  high : l.at ≤ length l.fn.from.words;
  words : l.into.words ≡ drop l.at l.fn.from.words;
}

abbrev pub decreases-copying : goal.decreases-copying
decreases-copying l = l.at
