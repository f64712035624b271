use Rattle.std.proofs.Common.{◌≡◌, ◌+◌, ◌-◌, ◌^◌, ◌<◌, min, drop}
use Rattle.algol_rules.specs.Opened.{further_events}
use Rattle.algol_rules.proofs.count.further_events.Given as goal

abbrev pub invariant-events : goal.invariant-events
invariant-events l =
    (l.count < 2 ^ 64) × (min (l.count + further_events (drop l.e-index l.es)) (2 ^ 64 - 1) ≡ min (further_events l.fn.es) (2 ^ 64 - 1))
