use Rattle.std.proofs.Common.{Bool, ap, not, vec_capacity}
use Rattle.b67_events.specs.Events.{is_from}
use Rattle.b67_events.proofs.Shown.{events_closed}
use Rattle.b67_events.proofs.Steps.{held, kept_closed, kept_wider}
use Rattle.b67_events.specs.declared.Waiting.{Waiting}
use Rattle.b67_events.proofs.Named.{lists_less, waits_filter}
use Rattle.b67_events.proofs.Order.{order_filter}
use Rattle.b67_events.proofs.Kernel.close_from.Goals as goal

pub forget_from-requires : goal.forget_from-requires
forget_from-requires c = c.self.invariant.2

pub invariant_of-self : goal.invariant_of-self
invariant_of-self c =
    let k = c.self.inside in
    let kept = kept_closed (λ p. not (is_from c.args.stack c.args.at p)) k.events.entries k.waiting.items k.processes (vec_capacity k.waiting) c.self.invariant.0 in
    let stay : Waiting → Bool = λ w. not (is_from c.args.stack c.args.at w.place) in (
      rw (c.remove_from.ensures, c.forget_from.ensures.kept) (kept_wider _ _ _ _ _ kept c.forget_from.ensures.capacity),
      rw c.forget_from.ensures.kept (lists_less _ k.waiting.items _ _ _ c.self.invariant.1 (waits_filter stay k.waiting.items)),
      rw c.forget_from.ensures.kept (order_filter stay k.waiting.items c.self.invariant.2),
    )

pub returns : goal.returns
returns c =
    let k = c.self.inside in
    rw (← c.self.view_is, c.remove_from.ensures, c.forget_from.ensures.kept)
    (ap (λ es. held es k.lists.items k.processes) (events_closed (λ p. not (is_from c.args.stack c.args.at p)) k.events.entries k.waiting.items))
