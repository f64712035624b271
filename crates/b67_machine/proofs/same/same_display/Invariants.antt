use Rattle.std.proofs.Common.{◌≡◌, ◌≤◌, ◌<◌, length, take}
use Rattle.b67_machine.proofs.same.same_display.Given as goal

abbrev pub invariant-levels : goal.invariant-levels
invariant-levels l = record {
  within : l.level ≤ 32;
  length : 0 < l.level → (length l.fn.ours ≡ 32) × (length l.fn.theirs ≡ 32);
  before : take l.level l.fn.ours ≡ take l.level l.fn.theirs;
}
