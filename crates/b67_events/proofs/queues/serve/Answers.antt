use Rattle.std.proofs.Common.{◌≡◌, ◌<◌, ◌≤◌, ◌+◌, true, false, [], ◌++◌, length, map, take, drop, sym, ap, ◌∙◌, arith}
use Rattle.std.specs.Prelude.{slice_get}
use Rattle.std.proofs.lemmas.List.{get_or_default, take-append-drop}
use Rattle.b67_events.specs.Kept.{stands_in, waiters_listed, without_first, rank_at, below}
use Rattle.b67_events.specs.declared.Queue.TheVariants.{Procurers}
use Rattle.b67_events.proofs.Listed.{found_first, found_rest}
use Rattle.b67_events.proofs.Order.{from_rank, rank_by_stand, first_from, listed_from, none_from, none_first, none_higher, from_past}
use Rattle.b67_events.proofs.queues.serve.Goals.{else-index-len-via-then-index-len+else-is_in, else-index-len-via-else-index-len}
use Rattle.b67_events.proofs.queues.serve.Goals as goal

module _ (c : goal.After-remove) where
  short : c.below-index.result < length c.args.waiting.now.items
  short = omega (arith, c.if-index-len.true, c.len.ensures, c.args.waiting.now.ok)

  stands : stands_in Procurers c.args.at c.remove.result ≡ true
  stands =
      let same : c.remove.result ≡ c.index.result.now =
      c.remove.ensures.value ∙ get_or_default c.args.waiting.now.items c.below-index.result c.remove.result c.index.result.now short ∙ sym c.index.ensures in
      ap (stands_in Procurers c.args.at) same ∙ sym c.is_in.ensures ∙ c.if-is_in.true

pub returns-then-is_in-clause-first : goal.returns-then-is_in-clause-first
returns-then-is_in-clause-first c =
    let ws = c.args.waiting.now.items in
    let at = c.args.at in
    let i = c.below-index.result in
    let place : i ≡ below (rank_at Procurers at) ws = c.below-index.ensures ∙ ap (λ r. below r ws) c.rank_at.ensures in
    let same : waiters_listed Procurers at (drop i ws) ≡ waiters_listed Procurers at ws = ap (λ k. waiters_listed Procurers at (drop k ws)) place ∙ ap (map (λ w. w.process)) (listed_from Procurers at ws) in
    sym (found_first Procurers at ws i c.remove.result (short c) c.remove.ensures.value (stands c)) ∙ ap (λ ps. slice_get ps 0) same

pub returns-then-is_in-clause-rest : goal.returns-then-is_in-clause-rest
returns-then-is_in-clause-rest c =
    let ws = c.args.waiting.now.items in
    let at = c.args.at in
    let i = c.below-index.result in
    let t = stands_in Procurers at in
    let place : i ≡ below (rank_at Procurers at) ws = c.below-index.ensures ∙ ap (λ r. below r ws) c.rank_at.ensures in
    c.remove.ensures.items ∙ sym (found_rest Procurers at ws i c.remove.result (short c) c.remove.ensures.value (stands c))
    ∙ sym (first_from t (rank_at Procurers at) (rank_by_stand Procurers at) ws ∙ ap (λ k. take k ws ++ without_first t (drop k ws)) (sym place))

-- nobody who stands there, or after, waits to procure the event
none : (c : goal.Joined-else-index-len) → from_rank (rank_at Procurers c.args.at + 1) (drop c.below-index.result c.args.waiting.now.items)
none c =
    let ws = c.args.waiting.now.items in
    let at = c.args.at in
    let i = c.below-index.result in
    let place : i ≡ below (rank_at Procurers at) ws = c.below-index.ensures ∙ ap (λ r. below r ws) c.rank_at.ensures in
    elim c.else-index-len.branch [
      | else-index-len-via-then-index-len+else-is_in w ↦
          let short : i < length ws = omega (arith, w.if-index-len.true, c.len.ensures, c.args.waiting.now.ok) in
          let out : stands_in Procurers at w.index.result.now ≡ false = sym w.is_in.ensures ∙ w.if-is_in.false in
          none_from Procurers at i ws w.index.result.now (omega (arith, c.well_formed)) c.requires (omega (arith, place)) short w.index.ensures out
      | else-index-len-via-else-index-len w ↦
          let past : length ws ≤ i = omega (arith, w.if-index-len.false, c.len.ensures, c.args.waiting.now.ok) in
          from_past (rank_at Procurers at + 1) i ws past
    ]

pub returns-clause-first : goal.returns-clause-first
returns-clause-first c =
    let ws = c.args.waiting.now.items in
    let at = c.args.at in
    let i = c.below-index.result in
    let place : i ≡ below (rank_at Procurers at) ws = c.below-index.ensures ∙ ap (λ r. below r ws) c.rank_at.ensures in
    let same : waiters_listed Procurers at (drop i ws) ≡ waiters_listed Procurers at ws = ap (λ k. waiters_listed Procurers at (drop k ws)) place ∙ ap (map (λ w. w.process)) (listed_from Procurers at ws) in
    let empty : waiters_listed Procurers at ws ≡ [] = sym same ∙ ap (map (λ w. w.process)) (none_higher Procurers at (drop i ws) (none c)) in
    sym (ap (λ ps. slice_get ps 0) empty)

pub returns-clause-rest : goal.returns-clause-rest
returns-clause-rest c =
    let ws = c.args.waiting.now.items in
    let at = c.args.at in
    let i = c.below-index.result in
    let t = stands_in Procurers at in
    let r = rank_at Procurers at in
    let place : i ≡ below r ws = c.below-index.ensures ∙ ap (λ n. below n ws) c.rank_at.ensures in
    sym (first_from t r (rank_by_stand Procurers at) ws ∙ ap (λ k. take k ws ++ without_first t (drop k ws)) (sym place)
    ∙ ap (λ ys. take i ws ++ ys) (none_first t r (rank_by_stand Procurers at) (drop i ws) (none c)) ∙ take-append-drop i ws)
