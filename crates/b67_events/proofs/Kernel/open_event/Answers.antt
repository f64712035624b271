use Rattle.std.proofs.Common.{◌≡◌, Bool, true, false, ap, arith, not, vec_capacity, ◌∙◌}
use Rattle.std.specs.Prelude.{filter}
use Rattle.b67_events.specs.Events.{same_place}
use Rattle.b67_events.specs.Kept.{event_put}
use Rattle.b67_events.proofs.Places.{entry_put}
use Rattle.b67_events.proofs.Shown.{events_opened}
use Rattle.b67_events.proofs.Steps.{held, kept_opened, kept_wider}
use Rattle.b67_events.specs.declared.Waiting.{Waiting}
use Rattle.b67_events.proofs.Named.{lists_less, waits_filter}
use Rattle.b67_events.proofs.Order.{order_filter}
use Rattle.b67_events.proofs.Kernel.open_event.Goals as goal

events_are : (c : goal.After-forget) → c.insert.new.self.entries
    ≡ event_put (c.args.at, record { happened = false; available = true }) (filter (λ f. not (same_place f.0 c.args.at)) c.self.inside.events.entries)
events_are c =
    c.in_ok-insert.ensures.entries ∙ entry_put c.args.at (record { happened = false; available = true }) c.self.inside.events.entries c.in_ok-insert.ensures.was_ordered

pub forget-requires : goal.forget-requires
forget-requires c = c.self.invariant.2

pub invariant_of-self-2 : goal.invariant_of-self-2
invariant_of-self-2 c =
    let k = c.self.inside in
    let kept =
    kept_opened c.args.at (record { happened = false; available = true }) k.events.entries k.waiting.items k.processes (vec_capacity k.waiting) (omega (arith, c.well_formed)) c.self.invariant.0 in
    let stay : Waiting → Bool = λ w. not (same_place w.place c.args.at) in (
      rw (events_are c, c.forget.ensures.kept) (kept_wider _ _ _ _ _ kept c.forget.ensures.capacity),
      rw c.forget.ensures.kept (lists_less _ k.waiting.items _ _ _ c.self.invariant.1 (waits_filter stay k.waiting.items)),
      rw c.forget.ensures.kept (order_filter stay k.waiting.items c.self.invariant.2),
    )

pub returns-clause-ok : goal.returns-clause-ok
returns-clause-ok c =
    let k = c.self.inside in
    rw (← c.self.view_is, events_are c, c.forget.ensures.kept)
    (ap (λ es. held es k.lists.items k.processes) (events_opened c.args.at k.events.entries k.waiting.items))
