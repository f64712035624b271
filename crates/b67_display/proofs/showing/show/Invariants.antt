use Rattle.std.proofs.Common.{◌-◌, ◌≡◌, ◌≤◌, ◌+◌, None, length, take, drop, replicate}
use Rattle.b67_display.proofs.showing.show.Given as goal

abbrev pub invariant-above : goal.invariant-above
invariant-above l = record {
  to : l.at ≤ 31;
  size : length l.display ≡ 32;
  front : take l.fn.level l.display ≡ take l.fn.level l.initial.display;
  ends : drop (l.at + 1) l.display ≡ replicate (32 - (l.at + 1)) None;
}

abbrev pub decreases-above : goal.decreases-above
decreases-above l = l.at - l.level
