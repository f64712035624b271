use Rattle.std.proofs.Common.{◌≡◌, [], ◌∙◌, ap, sym, get_or, None, arith, vec_capacity}
use Rattle.b67_events.specs.Events.{first_event_happened as first_happened, took_any, waited_any, with_list}
use Rattle.b67_events.specs.Kept.{events_of, joiners}
use Rattle.b67_events.proofs.OfSeveral.{first_shown}
use Rattle.b67_events.proofs.Shown.{open-shown}
use Rattle.b67_events.proofs.Joined.{events_any}
use Rattle.b67_events.proofs.Steps.{held, kept_room, kept_any, kept_wider, kept_idle}
use Rattle.b67_events.proofs.Stood.{AreLow, kept_stand_all, order_stand_all, events_stand_all}
use Rattle.b67_events.proofs.Named.{low_joiners, lists_with, lists_wider}
use Rattle.b67_events.proofs.Kernel.wait_any.Goals as goal

pub returns-in-Some-clause-answer : goal.returns-in-Some-clause-answer
returns-in-Some-clause-answer c =
    let k = c.self.inside in
    rw (← c.self.view_is)
    (sym (ap took_any (sym (c.first_happened.ensures ∙ first_shown k.events.entries k.waiting.items c.args.at.now) ∙ c.in-Some.is)))

pub returns-in-Some-clause-after : goal.returns-in-Some-clause-after
returns-in-Some-clause-after c =
    let k = c.self.inside in
    let es = events_of k.events.entries k.waiting.items in
    rw (← c.self.view_is)
    (sym (ap (λ o. waited_any o c.args.at.now c.args.process (held es k.lists.items k.processes))
    (sym (c.first_happened.ensures ∙ first_shown k.events.entries k.waiting.items c.args.at.now) ∙ c.in-Some.is)))

pub join_all-requires-clause-order : goal.join_all-requires-clause-order
join_all-requires-clause-order c = c.self.invariant.2

pub join_all-requires-clause-room : goal.join_all-requires-clause-room
join_all-requires-clause-room c =
    let k = c.self.inside in
    let idle = rw (← c.self.view_is) at c.requires.idle in
    let process = rw (← c.self.view_is) at c.requires.process in
    let room = kept_room k.events.entries k.waiting.items k.processes (vec_capacity k.waiting) c.args.process c.self.invariant.0 process.0 process.1 idle in
    omega (arith, room, c.requires.few.1)

pub join_all-requires-clause-low : goal.join_all-requires-clause-low
join_all-requires-clause-low c =
    let k = c.self.inside in
    let there = rw (← c.self.view_is) at c.requires.open in
    λ i d h. c.self.invariant.0.within (get_or c.args.at.now i d) (sym (open-shown (get_or c.args.at.now i d) k.events.entries k.waiting.items) ∙ there i d h)

pub with_list-requires-clause-room : goal.with_list-requires-clause-room
with_list-requires-clause-room c =
    let process = rw (← c.self.view_is) at c.requires.process in
    omega (arith, process.1, c.self.invariant.1.room)

low : (c : goal.After-with_list) → AreLow (joiners c.args.process [] c.args.at.now)
low c =
    let k = c.self.inside in
    let there = rw (← c.self.view_is) at c.requires.open in
    low_joiners k.events.entries k.waiting.items c.args.process [] c.args.at.now c.self.invariant.0.within there

pub invariant_of-self : goal.invariant_of-self
invariant_of-self c =
    let k = c.self.inside in
    let idle = rw (← c.self.view_is) at c.requires.idle in
    let process = rw (← c.self.view_is) at c.requires.process in
    let there = rw (← c.self.view_is) at c.requires.open in
    let kept =
    kept_any k.events.entries k.waiting.items k.processes (vec_capacity k.waiting) c.args.process c.args.at.now c.self.invariant.0 process.0 process.1 c.requires.few.1 there idle in
    let free = kept_idle k.events.entries k.waiting.items k.processes (vec_capacity k.waiting) c.args.process c.self.invariant.0 idle in
    let lists = lists_with k.lists.items k.waiting.items k.processes (vec_capacity k.lists) c.args.process c.args.at.now c.self.invariant.1 process.0 process.1 free in (
      rw c.join_all.ensures.waiting (kept_wider _ _ _ _ _ (kept_stand_all k.events.entries (joiners c.args.process [] c.args.at.now) k.waiting.items _ _ kept) c.join_all.ensures.capacity),
      rw (c.join_all.ensures.waiting, c.with_list.ensures.lists) (lists_wider _ _ _ _ _ lists c.with_list.ensures.capacity),
      rw c.join_all.ensures.waiting (order_stand_all (joiners c.args.process [] c.args.at.now) k.waiting.items (low c) c.self.invariant.2),
    )

pub returns-clause-answer : goal.returns-clause-answer
returns-clause-answer c =
    let k = c.self.inside in
    rw (← c.self.view_is)
    (sym (ap took_any (sym (c.first_happened.ensures ∙ first_shown k.events.entries k.waiting.items c.args.at.now) ∙ c.in_default.is)))

pub returns-clause-after : goal.returns-clause-after
returns-clause-after c =
    let k = c.self.inside in
    let places = c.args.at.now in
    let es = events_of k.events.entries k.waiting.items in
    let none : first_happened places es ≡ None = sym (c.first_happened.ensures ∙ first_shown k.events.entries k.waiting.items places) ∙ c.in_default.is in
    rw (← c.self.view_is, c.join_all.ensures.waiting, c.with_list.ensures.lists)
    (ap (λ fs. held fs (with_list k.lists.items c.args.process places) k.processes) (events_stand_all k.events.entries (joiners c.args.process [] places) k.waiting.items (low c) c.self.invariant.2
    ∙ events_any k.events.entries c.args.process places k.waiting.items)
    ∙ sym (ap (λ o. waited_any o places c.args.process (held es k.lists.items k.processes)) none))
