use Rattle.std.proofs.Common.{◌≡◌, ◌≤◌, length, take}
use Rattle.b67_machine.proofs.comparing.first_difference.Given as goal

abbrev pub invariant-words : goal.invariant-words
invariant-words l = record {
  within : l.position ≤ length l.fn.kept;
  before : take l.position l.fn.kept ≡ take l.position l.fn.given;
}
