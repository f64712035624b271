use Rattle.std.proofs.Common.{◌≡◌, drop}
use Rattle.b67_events.specs.Events.{event_is_among}
use Rattle.b67_events.proofs.several.is_among.Given as goal

abbrev pub invariant-looking : goal.invariant-looking
invariant-looking l = event_is_among l.places l.at ≡ event_is_among (drop l.index l.places) l.at
