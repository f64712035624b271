use Rattle.std.proofs.Common.{◌≡◌, take, length}
use Rattle.b67_limits.specs.declared.TheConstants.{MOST_EVENTS}
use Rattle.b67_events.proofs.several.Several.of.Given as goal

abbrev pub invariant-naming : goal.invariant-naming
invariant-naming l = record {
  long : length l.places ≡ MOST_EVENTS;
  named : take l.index l.places ≡ take l.index l.at;
}
