use Rattle.std.proofs.Common.{◌≡◌, ◌≤◌, ◌-◌, length, take}
use Rattle.b67_listing_reader.proofs.body.first_other.Given as goal

abbrev pub invariant-lines : goal.invariant-lines
invariant-lines l = record {
  alike : take l.same l.lines ≡ take l.same l.others;
  within : l.same ≤ length l.lines;
  inside : l.same ≤ length l.others;
}

abbrev pub decreases-lines : goal.decreases-lines
decreases-lines l = length l.lines - l.same
