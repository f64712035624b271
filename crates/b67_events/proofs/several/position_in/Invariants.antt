use Rattle.std.proofs.Common.{◌≡◌, ◌+◌, drop}
use Rattle.b67_events.specs.Events.{same_place, first_that}
use Rattle.b67_events.proofs.several.position_in.Given as goal

abbrev pub invariant-looking : goal.invariant-looking
invariant-looking l = record {
  position : l.position ≡ l.index + 1;
  found : first_that (λ place. same_place place l.at) 1 l.places ≡ first_that (λ place. same_place place l.at) l.position (drop l.index l.places);
}
