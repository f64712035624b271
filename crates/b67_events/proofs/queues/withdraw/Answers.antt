use Rattle.std.proofs.Common.{◌≡◌, ◌<◌, ◌≤◌, ◌+◌, not, ◌∷◌, length, drop, sym, ap, ◌∙◌, arith}
use Rattle.std.specs.Prelude.{filter}
use Rattle.std.proofs.lemmas.List.{drop_more, drop_all}
use Rattle.b67_events.specs.Events.{list_of}
use Rattle.b67_events.specs.Kept.{is_left, is_named}
use Rattle.b67_events.proofs.Order.{order_filter}
use Rattle.b67_events.proofs.Stood.{once_filter}
use Rattle.b67_events.proofs.Leaving.{named_step, named_none}
use Rattle.b67_events.proofs.queues.withdraw.Goals as goal

pub withdrawing-preserved : goal.withdrawing-preserved
withdrawing-preserved c =
    let p = c.index.result.now in
    let i = c.withdrawing.index in
    let ps = c.args.processes.now.items in
    let lists = c.args.lists.now.items in
    let ws = c.withdrawing.waiting.items in
    let inv = c.withdrawing.invariant in
    let short : i < length ps = omega (arith, c.withdrawing-test.true, c.len-index-end.ensures, c.args.processes.now.ok) in
    let here : drop i ps ≡ p ∷ drop (i + 1) ps = drop_more ps i p short ∙ ap (λ q. q ∷ drop (i + 1) ps) (sym c.index.ensures) in
    record {
      order = rw c.withdraw_one.ensures.kept (order_filter (λ w. not (is_left p (list_of p lists) w)) ws inv.order);
      once = rw c.withdraw_one.ensures.kept (once_filter (λ w. not (is_left p (list_of p lists) w)) ws inv.once);
      kept = rw c.withdraw_one.ensures.kept
          (named_step p (drop (i + 1) ps) lists ws ∙ ap (λ qs. filter (λ w. not (is_named qs lists w)) ws) (sym here) ∙ inv.kept);
      capacity = omega (arith, inv.capacity, c.withdraw_one.ensures.capacity);
    }

pub returns-clause-kept : goal.returns-clause-kept
returns-clause-kept c =
    let ps = c.args.processes.now.items in
    let i = c.withdrawing.index in
    let past : length ps ≤ i = omega (arith, c.withdrawing-test.false, c.len-index-end.ensures, c.args.processes.now.ok) in
    sym (named_none (drop i ps) c.args.lists.now.items c.withdrawing.waiting.items (drop_all i ps past)) ∙ c.withdrawing.invariant.kept
