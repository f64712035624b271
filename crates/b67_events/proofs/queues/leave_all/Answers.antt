use Rattle.std.proofs.Common.{◌≡◌, ◌<◌, ◌≤◌, ◌+◌, not, length, drop, get_or, sym, ap, ◌∙◌, arith}
use Rattle.std.specs.Prelude.{filter}
use Rattle.std.proofs.lemmas.List.{drop_more, drop_all}
use Rattle.b67_word.specs.declared.Place.{Place}
use Rattle.b67_events.specs.Kept.{is_same, is_left}
use Rattle.b67_events.proofs.Joined.{one}
use Rattle.b67_events.proofs.Order.{order_first}
use Rattle.b67_events.proofs.Leaving.{leave_step, once_left, left_none}
use Rattle.b67_events.proofs.queues.leave_all.Goals as goal

pub leaving-preserved : goal.leaving-preserved
leaving-preserved c =
    let p = c.args.process in
    let i = c.leaving.index in
    let places = c.args.places.now in
    let d : Place = record { stack = 0; at = 0 } in
    let short : i < length places = c.leaving-test.true in
    let x = get_or places i d in
    let ws = c.leaving.waiting.items in
    let inv = c.leaving.invariant in
    record {
      order = rw c.leave.ensures.rest (order_first (is_same (one p x)) ws inv.order);
      once = rw c.leave.ensures.rest (once_left p x ws inv.once);
      kept = rw c.leave.ensures.rest
          (leave_step p x (drop (i + 1) places) ws inv.once ∙ ap (λ l. filter (λ w. not (is_left p l w)) ws) (sym (drop_more places i d short)) ∙ inv.kept);
      capacity = omega (arith, inv.capacity, c.leave.ensures.capacity);
    }

pub returns-clause-kept : goal.returns-clause-kept
returns-clause-kept c =
    let places = c.args.places.now in
    let i = c.leaving.index in
    let past : length places ≤ i = omega (arith, c.leaving-test.false) in
    sym (left_none c.args.process (drop i places) c.leaving.waiting.items (drop_all i places past)) ∙ c.leaving.invariant.kept
