use Rattle.std.proofs.Common.{◌≡◌, ◌<◌, ◌+◌, ◌∙◌, true, false, ap, sym, take, drop, get_or, length, arith}
use Rattle.std.proofs.lemmas.List.{drop_more}
use Rattle.b67_word.specs.declared.Place.{Place}
use Rattle.b67_events.specs.Events.{event_is_among}
use Rattle.b67_events.specs.Kept.{joiners, stand_all}
use Rattle.b67_events.proofs.Joined.{one, joiners_again, joiners_new}
use Rattle.b67_events.proofs.Order.{order_stand}
use Rattle.b67_events.proofs.Stood.{length_stand}
use Rattle.b67_events.proofs.queues.join_all.Goals.{then-not-is_among, else-not-is_among}
use Rattle.b67_events.proofs.queues.join_all.Goals as goal

pub joining-preserved : goal.joining-preserved
joining-preserved c =
    let p = c.args.process in
    let i = c.joining.index in
    let places = c.args.at.now in
    let d : Place = record { stack = 0; at = 0 } in
    let short : i < length places = omega arith in
    let inv = c.joining.invariant in
    let ws = c.joining.waiting.items in
    let more = joiners p (take (i + 1) places) (drop (i + 1) places) in
    let fewer : length (drop i places) ≡ length (drop (i + 1) places) + 1 = ap length (drop_more places i d short) ∙ omega arith in
    elim c.if-not-is_among.branch [
      | then-not-is_among w ↦
          let fresh : event_is_among (take i places) (get_or places i d) ≡ false = sym c.is_among.ensures ∙ w.if-not-is_among.true in
          let count : length w.enqueue.new.waiting.items ≡ length ws + 1 = ap length w.enqueue.ensures.items ∙ length_stand (one p (get_or places i d)) ws in
          record {
            order = rw (w.waiting-is, w.enqueue.ensures.items) (order_stand (one p (get_or places i d)) ws (c.requires.low i d short) inv.order);
            waiting = rw (w.waiting-is, w.enqueue.ensures.items) (ap (λ js. stand_all js ws) (sym (joiners_new p i places d short fresh)) ∙ inv.waiting);
            room = rw w.waiting-is (omega (arith, count, fewer, inv.room, w.enqueue.ensures.capacity));
            capacity = rw w.waiting-is (omega (arith, inv.capacity, w.enqueue.ensures.capacity));
          }
      | else-not-is_among w ↦
          let seen : event_is_among (take i places) (get_or places i d) ≡ true = sym c.is_among.ensures ∙ w.if-not-is_among.false in
          record {
            order = rw w.waiting-is inv.order;
            waiting = rw w.waiting-is (ap (λ js. stand_all js ws) (sym (joiners_again p i places d short seen)) ∙ inv.waiting);
            room = rw w.waiting-is (omega (arith, fewer, inv.room));
            capacity = rw w.waiting-is inv.capacity;
          }
    ]
