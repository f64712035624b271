use Rattle.std.proofs.Common.{◌≡◌, refl, true, false, ap, sym, ◌∙◌, vec_capacity, arith}
use Rattle.b67_deeds.specs.Deeds.{procures}
use Rattle.b67_events.specs.Events.{available_at}
use Rattle.b67_events.specs.Kept.{events_of, with_available}
use Rattle.b67_events.specs.declared.Waiting.{Waiting}
use Rattle.b67_events.specs.declared.Queue.TheVariants.{Procurers}
use Rattle.b67_events.proofs.Shown.{available_shown}
use Rattle.b67_events.proofs.Steps.{held, kept_set, kept_room, kept_push, kept_wider, procure_goes, procure_waits, took_goes, took_waits}
use Rattle.b67_events.proofs.Stood.{kept_stand, events_stand}
use Rattle.b67_events.proofs.Named.{named_procure, lists_waiting}
use Rattle.b67_events.proofs.Order.{order_stand}
use Rattle.b67_events.proofs.Kernel.procure.Goals as goal

went : (c : goal.After-set_available) → available_at c.args.at (events_of c.self.inside.events.entries c.self.inside.waiting.items) ≡ true
went c =
    let k = c.self.inside in
    let flag = c.is_available.ensures in
    available_shown c.args.at k.events.entries k.waiting.items ∙ sym flag ∙ c.if-is_available.true

waits : (c : goal.After-enqueue) → available_at c.args.at (events_of c.self.inside.events.entries c.self.inside.waiting.items) ≡ false
waits c =
    let k = c.self.inside in
    let flag = c.is_available.ensures in
    available_shown c.args.at k.events.entries k.waiting.items ∙ sym flag ∙ c.if-is_available.false

pub returns-then-is_available-clause-answer : goal.returns-then-is_available-clause-answer
returns-then-is_available-clause-answer c =
    rw (← c.self.view_is) (took_goes (available_at c.args.at (events_of c.self.inside.events.entries c.self.inside.waiting.items)) procures (went c))

pub invariant_of-self : goal.invariant_of-self
invariant_of-self c =
    let k = c.self.inside in (
      rw c.set_available.ensures
          (kept_set c.args.at (with_available false) k.events.entries k.waiting.items k.processes (vec_capacity k.waiting) c.self.invariant.0),
      c.self.invariant.1,
      c.self.invariant.2,
    )

pub returns-then-is_available-clause-after : goal.returns-then-is_available-clause-after
returns-then-is_available-clause-after c =
    let k = c.self.inside in
    rw (← c.self.view_is, c.set_available.ensures)
    (ap (λ es. held es k.lists.items k.processes) (procure_goes c.args.at c.args.process k.events.entries k.waiting.items (went c)))

pub enqueue-requires-clause-order : goal.enqueue-requires-clause-order
enqueue-requires-clause-order c = c.self.invariant.2

pub enqueue-requires-clause-room : goal.enqueue-requires-clause-room
enqueue-requires-clause-room c =
    let k = c.self.inside in
    let idle = rw (← c.self.view_is) at c.requires.idle in
    let process = rw (← c.self.view_is) at c.requires.process in
    let room = kept_room k.events.entries k.waiting.items k.processes (vec_capacity k.waiting) c.args.process c.self.invariant.0 process.0 process.1 idle in
    omega (arith, room)

pub invariant_of-self-2 : goal.invariant_of-self-2
invariant_of-self-2 c =
    let k = c.self.inside in
    let idle = rw (← c.self.view_is) at c.requires.idle in
    let process = rw (← c.self.view_is) at c.requires.process in
    let here = rw (← c.self.view_is) at c.requires.open in
    let one : Waiting = record { process = c.args.process; place = c.args.at; queue = Procurers } in
    let kept = kept_push k.events.entries k.waiting.items k.processes (vec_capacity k.waiting) one c.self.invariant.0 process.0 process.1 here idle in (
      rw c.enqueue.ensures.items (kept_wider _ _ _ _ _ (kept_stand k.events.entries one k.waiting.items _ _ kept) c.enqueue.ensures.capacity),
      rw c.enqueue.ensures.items (lists_waiting _ k.waiting.items _ _ _ c.self.invariant.1 (named_procure k.lists.items c.args.process c.args.at k.waiting.items c.self.invariant.1.named)),
      rw c.enqueue.ensures.items (order_stand one k.waiting.items (omega (arith, c.well_formed)) c.self.invariant.2),
    )

pub returns-clause-answer : goal.returns-clause-answer
returns-clause-answer c =
    rw (← c.self.view_is) (took_waits (available_at c.args.at (events_of c.self.inside.events.entries c.self.inside.waiting.items)) procures refl (waits c))

pub returns-clause-after : goal.returns-clause-after
returns-clause-after c =
    let k = c.self.inside in
    rw (← c.self.view_is, c.enqueue.ensures.items)
    (ap (λ es. held es k.lists.items k.processes)
    (events_stand k.events.entries (record { process = c.args.process; place = c.args.at; queue = Procurers }) k.waiting.items c.self.invariant.2
    ∙ procure_waits c.args.at c.args.process k.events.entries k.waiting.items (waits c)))
