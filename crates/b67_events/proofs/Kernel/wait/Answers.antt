use Rattle.std.proofs.Common.{◌≡◌, refl, true, false, ap, sym, ◌∙◌, vec_capacity, arith}
use Rattle.b67_deeds.specs.Deeds.{waits as waiting}
use Rattle.b67_events.specs.Events.{happened_at}
use Rattle.b67_events.specs.Kept.{events_of}
use Rattle.b67_events.specs.declared.Waiting.{Waiting}
use Rattle.b67_events.specs.declared.Queue.TheVariants.{Waiters}
use Rattle.b67_events.proofs.Shown.{happened_shown}
use Rattle.b67_events.proofs.Steps.{held, kept_room, kept_push, kept_wider, kept_idle, wait_goes, wait_waits, took_goes, took_waits}
use Rattle.b67_events.proofs.Stood.{kept_stand, events_stand}
use Rattle.b67_events.proofs.Named.{named_stand, lists_waiting}
use Rattle.b67_events.proofs.Order.{order_stand}
use Rattle.b67_events.proofs.Kernel.wait.Goals as goal

went : (c : goal.Then-has_happened) → happened_at c.args.at (events_of c.self.inside.events.entries c.self.inside.waiting.items) ≡ true
went c =
    let k = c.self.inside in
    let flag = c.has_happened.ensures in
    happened_shown c.args.at k.events.entries k.waiting.items ∙ sym flag ∙ c.if-has_happened.true

waits : (c : goal.After-enqueue) → happened_at c.args.at (events_of c.self.inside.events.entries c.self.inside.waiting.items) ≡ false
waits c =
    let k = c.self.inside in
    let flag = c.has_happened.ensures in
    happened_shown c.args.at k.events.entries k.waiting.items ∙ sym flag ∙ c.if-has_happened.false

pub returns-then-has_happened-clause-answer : goal.returns-then-has_happened-clause-answer
returns-then-has_happened-clause-answer c =
    rw (← c.self.view_is) (took_goes (happened_at c.args.at (events_of c.self.inside.events.entries c.self.inside.waiting.items)) waiting (went c))

pub returns-then-has_happened-clause-after : goal.returns-then-has_happened-clause-after
returns-then-has_happened-clause-after c =
    let k = c.self.inside in
    rw (← c.self.view_is) (ap (λ es. held es k.lists.items k.processes) (wait_goes c.args.at c.args.process (events_of k.events.entries k.waiting.items) (went c)))

pub enqueue-requires-clause-order : goal.enqueue-requires-clause-order
enqueue-requires-clause-order c = c.self.invariant.2

pub enqueue-requires-clause-room : goal.enqueue-requires-clause-room
enqueue-requires-clause-room c =
    let k = c.self.inside in
    let idle = rw (← c.self.view_is) at c.requires.idle in
    let process = rw (← c.self.view_is) at c.requires.process in
    let room = kept_room k.events.entries k.waiting.items k.processes (vec_capacity k.waiting) c.args.process c.self.invariant.0 process.0 process.1 idle in
    omega (arith, room)

pub invariant_of-self : goal.invariant_of-self
invariant_of-self c =
    let k = c.self.inside in
    let idle = rw (← c.self.view_is) at c.requires.idle in
    let process = rw (← c.self.view_is) at c.requires.process in
    let here = rw (← c.self.view_is) at c.requires.open in
    let one : Waiting = record { process = c.args.process; place = c.args.at; queue = Waiters } in
    let kept = kept_push k.events.entries k.waiting.items k.processes (vec_capacity k.waiting) one c.self.invariant.0 process.0 process.1 here idle in
    let free = kept_idle k.events.entries k.waiting.items k.processes (vec_capacity k.waiting) c.args.process c.self.invariant.0 idle in (
      rw c.enqueue.ensures.items (kept_wider _ _ _ _ _ (kept_stand k.events.entries one k.waiting.items _ _ kept) c.enqueue.ensures.capacity),
      rw c.enqueue.ensures.items (lists_waiting _ k.waiting.items _ _ _ c.self.invariant.1 (named_stand k.lists.items one k.waiting.items free c.self.invariant.1.named)),
      rw c.enqueue.ensures.items (order_stand one k.waiting.items (omega (arith, c.well_formed)) c.self.invariant.2),
    )

pub returns-clause-answer : goal.returns-clause-answer
returns-clause-answer c =
    rw (← c.self.view_is) (took_waits (happened_at c.args.at (events_of c.self.inside.events.entries c.self.inside.waiting.items)) waiting refl (waits c))

pub returns-clause-after : goal.returns-clause-after
returns-clause-after c =
    let k = c.self.inside in
    rw (← c.self.view_is, c.enqueue.ensures.items)
    (ap (λ es. held es k.lists.items k.processes)
    (events_stand k.events.entries (record { process = c.args.process; place = c.args.at; queue = Waiters }) k.waiting.items c.self.invariant.2
    ∙ wait_waits c.args.at c.args.process k.events.entries k.waiting.items (waits c)))
