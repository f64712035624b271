use Rattle.std.proofs.Common.{◌∙◌, true, ap, sym, vec_capacity}
use Rattle.std.specs.Prelude.{slice_get}
use Rattle.b67_events.specs.Events.{procurers_at}
use Rattle.b67_events.specs.Kept.{stands_in, events_of, with_available}
use Rattle.b67_events.specs.declared.Queue.TheVariants.{Procurers}
use Rattle.b67_events.proofs.Steps.{held, kept_first, kept_set, kept_wider, procurers_shown, liberated_served, liberated_freed, first_taken}
use Rattle.b67_events.proofs.Named.{lists_less, waits_first}
use Rattle.b67_events.proofs.Order.{order_first}
use Rattle.b67_events.proofs.Kernel.liberate.Goals as goal

pub serve-requires : goal.serve-requires
serve-requires c = c.self.invariant.2

pub invariant_of-self : goal.invariant_of-self
invariant_of-self c =
    let k = c.self.inside in
    let kept =
    kept_first (stands_in Procurers c.args.at) k.events.entries k.waiting.items k.processes (vec_capacity k.waiting) c.self.invariant.0 in (
      rw c.serve.ensures.rest (kept_wider _ _ _ _ _ kept c.serve.ensures.capacity),
      rw c.serve.ensures.rest (lists_less _ k.waiting.items _ _ _ c.self.invariant.1 (waits_first (stands_in Procurers c.args.at) k.waiting.items)),
      rw c.serve.ensures.rest (order_first (stands_in Procurers c.args.at) k.waiting.items c.self.invariant.2),
    )

pub returns-in-Some-clause-answer : goal.returns-in-Some-clause-answer
returns-in-Some-clause-answer c =
    let k = c.self.inside in
    let here = rw (← c.self.view_is) at c.requires in
    rw (← c.self.view_is)
    (sym c.in-Some.is ∙ c.serve.ensures.first ∙ ap (λ ks. slice_get ks 0) (procurers_shown c.args.at k.events.entries k.waiting.items here)
    ∙ first_taken (procurers_at c.args.at (events_of k.events.entries k.waiting.items)))

pub returns-in-Some-clause-after : goal.returns-in-Some-clause-after
returns-in-Some-clause-after c =
    let k = c.self.inside in
    let here = rw (← c.self.view_is) at c.requires in
    rw (← c.self.view_is, c.serve.ensures.rest)
    (ap (λ es. held es k.lists.items k.processes)
    (liberated_served c.args.at c.in-Some.process k.events.entries k.waiting.items here (sym c.serve.ensures.first ∙ c.in-Some.is)))

pub invariant_of-self-2 : goal.invariant_of-self-2
invariant_of-self-2 c =
    let k = c.self.inside in
    let set =
    kept_set c.args.at (with_available true) k.events.entries k.waiting.items k.processes (vec_capacity k.waiting) c.self.invariant.0 in
    let kept = kept_first (stands_in Procurers c.args.at) _ _ _ _ set in (
      rw (c.set_available.ensures, c.serve.ensures.rest) (kept_wider _ _ _ _ _ kept c.serve.ensures.capacity),
      rw c.serve.ensures.rest (lists_less _ k.waiting.items _ _ _ c.self.invariant.1 (waits_first (stands_in Procurers c.args.at) k.waiting.items)),
      rw c.serve.ensures.rest (order_first (stands_in Procurers c.args.at) k.waiting.items c.self.invariant.2),
    )

pub returns-clause-answer : goal.returns-clause-answer
returns-clause-answer c =
    let k = c.self.inside in
    let here = rw (← c.self.view_is) at c.requires in
    rw (← c.self.view_is)
    (sym c.in_default.is ∙ c.serve.ensures.first ∙ ap (λ ks. slice_get ks 0) (procurers_shown c.args.at k.events.entries k.waiting.items here)
    ∙ first_taken (procurers_at c.args.at (events_of k.events.entries k.waiting.items)))

pub returns-clause-after : goal.returns-clause-after
returns-clause-after c =
    let k = c.self.inside in
    let here = rw (← c.self.view_is) at c.requires in
    rw (← c.self.view_is, c.set_available.ensures, c.serve.ensures.rest)
    (ap (λ es. held es k.lists.items k.processes)
    (liberated_freed c.args.at k.events.entries k.waiting.items here (sym c.serve.ensures.first ∙ c.in_default.is)))
