use Rattle.std.proofs.Common.{Bool, ◌∙◌, ap, not, map, arith, vec_capacity}
use Rattle.std.specs.Prelude.{filter}
use Rattle.b67_events.specs.Events.{position_number_of as number_of, position_of, unlisted, waiters_at, event_changed as changed, with_state, withdrawn}
use Rattle.b67_events.specs.Kept.{stands_in, waiters_listed as listed, events_of, with_happened, is_named, without_waiters}
use Rattle.b67_events.specs.declared.Queue.TheVariants.{Waiters}
use Rattle.b67_events.specs.declared.Waiting.{Waiting}
use Rattle.b67_events.proofs.Steps.{held, kept_one, kept_set, kept_filter, kept_wider, woken_shown, event_released}
use Rattle.b67_events.proofs.Stood.{once_queued}
use Rattle.b67_events.proofs.Named.{waits_filter, lists_less, lists_without, lists_wider, released_is}
use Rattle.b67_events.proofs.Order.{order_filter}
use Rattle.b67_events.proofs.Kernel.let_all_go.Goals as goal

pub release-requires-clause-processes : goal.release-requires-clause-processes
release-requires-clause-processes c =
    let k = c.self.inside in
    let room = rw (← c.self.view_is) at c.requires.room in
    let few = kept_one k.events.entries k.waiting.items k.processes (vec_capacity k.waiting) c.args.at c.self.invariant.0 in
    omega (arith, few, room.0)

pub release-requires-clause-positions : goal.release-requires-clause-positions
release-requires-clause-positions c =
    let k = c.self.inside in
    let room = rw (← c.self.view_is) at c.requires.room in
    let few = kept_one k.events.entries k.waiting.items k.processes (vec_capacity k.waiting) c.args.at c.self.invariant.0 in
    omega (arith, few, room.1)

pub release-requires-clause-order : goal.release-requires-clause-order
release-requires-clause-order c = c.self.invariant.2

pub release-requires-clause-once : goal.release-requires-clause-once
release-requires-clause-once c =
    let k = c.self.inside in
    once_queued k.events.entries k.processes k.waiting.items c.self.invariant.0.queued

pub invariant_of-self : goal.invariant_of-self
invariant_of-self c =
    let k = c.self.inside in
    let ws = k.waiting.items in
    let ps = listed Waiters c.args.at ws in
    let out : Waiting → Bool = λ w. not (stands_in Waiters c.args.at w) in
    let stay : Waiting → Bool = λ w. not (is_named ps k.lists.items w) in
    let one = c.self.invariant.0 in
    let set = kept_set c.args.at (with_happened c.args.happened) k.events.entries ws k.processes (vec_capacity k.waiting) one in
    let kept = kept_filter stay _ _ _ _ (kept_filter out _ _ _ _ set) in
    let left = lists_less k.lists.items ws (filter out ws) k.processes (vec_capacity k.lists) c.self.invariant.1 (waits_filter out ws) in
    let lists = lists_without k.lists.items (filter out ws) k.processes (vec_capacity k.lists) ps left in (
      rw (c.set_happened.ensures, c.release.ensures.kept) (kept_wider _ _ _ _ _ kept c.release.ensures.capacity.0),
      rw (c.release.ensures.lists, c.release.ensures.kept, released_is c.args.at k.lists.items ws c.self.invariant.1.named) (lists_wider _ _ _ _ _ lists c.release.ensures.capacity.1),
      rw c.release.ensures.kept (order_filter stay (filter out ws) (order_filter out ws c.self.invariant.2)),
    )

pub returns-clause-after : goal.returns-clause-after
returns-clause-after c =
    let k = c.self.inside in
    let here = rw (← c.self.view_is) at c.requires.open in
    rw (← c.self.view_is, c.set_happened.ensures, c.release.ensures.kept, c.release.ensures.lists)
    (ap (λ es. held es (unlisted (listed Waiters c.args.at k.waiting.items) k.lists.items) k.processes)
    (event_released c.args.at c.args.happened k.events.entries k.waiting.items k.lists.items c.self.invariant.1.named here)
    ∙ ap (λ ps. held (withdrawn (waiters_at c.args.at (events_of k.events.entries k.waiting.items)) (changed c.args.at (with_state (without_waiters c.args.happened)) (events_of k.events.entries k.waiting.items))) (unlisted ps k.lists.items) k.processes)
    (woken_shown c.args.at k.events.entries k.waiting.items here))

pub returns-clause-woken : goal.returns-clause-woken
returns-clause-woken c =
    let k = c.self.inside in
    let here = rw (← c.self.view_is) at c.requires.open in
    rw (← c.self.view_is, c.release.ensures.woken) (woken_shown c.args.at k.events.entries k.waiting.items here)

pub returns-clause-positions : goal.returns-clause-positions
returns-clause-positions c =
    let k = c.self.inside in
    let here = rw (← c.self.view_is) at c.requires.open in
    rw (← c.self.view_is, c.release.ensures.positions)
    (ap (map (λ p. number_of (position_of c.args.at k.lists.items p))) (woken_shown c.args.at k.events.entries k.waiting.items here))
