use Rattle.std.proofs.Common.{◌≡◌, drop}
use Rattle.algol_tree.specs.Accepted.{noted_all}
use Rattle.algol_tree.specs.Surroundings.{Surroundings}
use Rattle.algol_sites.specs.Seeing.{TellsEvents}
use Rattle.algol_sites.specs.Wanting.{unfit_events}
use Rattle.algol_sites.proofs.wanted.want_events.Given as goal

abbrev pub invariant-events : goal.invariant-events
invariant-events l =
    (a : Surroundings) → TellsEvents l.scopes a l.fn.events →
    (noted_all l.faults.first (unfit_events (drop l.event-index l.events) a) ≡ noted_all l.initial.faults.first (unfit_events l.fn.events a)) ×
    TellsEvents l.scopes a (drop l.event-index l.events)
