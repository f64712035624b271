use Rattle.std.proofs.Common.{◌≡◌, ◌≤◌, ◌<◌, length, take}
use Rattle.b67_machine.proofs.comparing.first_level.Given as goal

abbrev pub invariant-levels : goal.invariant-levels
invariant-levels l = record {
  within : l.level ≤ 32;
  length : 0 < l.level → (length l.fn.kept ≡ 32) × (length l.fn.given ≡ 32);
  before : take l.level l.fn.kept ≡ take l.level l.fn.given;
}
