use Rattle.std.proofs.Common.{◌≡◌, ◌<◌, false, [], ◌++◌, length, map, drop, sym, ap, ◌∙◌, arith}
use Rattle.std.proofs.lemmas.List.{append-nil}
use Rattle.b67_events.specs.Kept.{stands_in, waiters_listed, rank_at, below}
use Rattle.b67_events.specs.declared.Queue.TheVariants.{Waiters}
use Rattle.b67_events.proofs.Order.{listed_from, none_from, none_higher}
use Rattle.b67_events.proofs.queues.gather.Goals as goal

pub waiting-init : goal.waiting-init
waiting-init c =
    let ws = c.args.waiting.now.items in
    let at = c.args.at in
    let place : c.below-from.result ≡ below (rank_at Waiters at) ws = c.below-from.ensures ∙ ap (λ r. below r ws) c.rank_at.ensures in
    let same : waiters_listed Waiters at (drop c.below-from.result ws) ≡ waiters_listed Waiters at ws =
    ap (λ i. waiters_listed Waiters at (drop i ws)) place ∙ ap (map (λ w. w.process)) (listed_from Waiters at ws) in
    record {
      from = omega (arith, place);
      woken = ap (λ ps. c.args.woken.now.items ++ ps) same;
      space = omega (arith, ap length same, c.requires.room);
      room = omega arith;
    }

pub returns-then-not-is_in-clause-first : goal.returns-then-not-is_in-clause-first
returns-then-not-is_in-clause-first c = c.below-from.ensures ∙ ap (λ r. below r c.args.waiting.now.items) c.rank_at.ensures

pub returns-clause-first : goal.returns-clause-first
returns-clause-first c = c.below-from.ensures ∙ ap (λ r. below r c.args.waiting.now.items) c.rank_at.ensures

pub returns-then-not-is_in-clause-woken : goal.returns-then-not-is_in-clause-woken
returns-then-not-is_in-clause-woken c =
    let ws = c.args.waiting.now.items in
    let at = c.args.at in
    let i = c.waiting.index in
    let x = c.index.result.now in
    let woken = c.waiting.woken.items in
    let out : stands_in Waiters at x ≡ false = sym c.is_in.ensures ∙ c.if-not-is_in.true in
    let short : i < length ws = omega (arith, c.waiting-test.true, c.len-index-end.ensures, c.args.waiting.now.ok) in
    let none : waiters_listed Waiters at (drop i ws) ≡ [] =
    ap (map (λ w. w.process)) (none_higher Waiters at (drop i ws) (none_from Waiters at i ws x (omega (arith, c.well_formed)) c.requires.order c.waiting.invariant.from short c.index.ensures out)) in
    sym (append-nil woken) ∙ ap (λ ps. woken ++ ps) (sym none) ∙ c.waiting.invariant.woken
