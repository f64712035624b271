use Rattle.std.proofs.Common.{◌≡◌, ◌-◌, ◌<◌, ◌≤◌, not, length, sym, ap, ◌∙◌, arith}
use Rattle.std.specs.Prelude.{filter}
use Rattle.b67_events.specs.Events.{list_of}
use Rattle.b67_events.specs.Kept.{is_left}
use Rattle.b67_events.proofs.OfSeveral.{list_at, list_past}
use Rattle.b67_events.proofs.Leaving.{left_none}
use Rattle.b67_events.proofs.queues.withdraw_one.Goals as goal

pub returns-then-process-eq0-clause-kept : goal.returns-then-process-eq0-clause-kept
returns-then-process-eq0-clause-kept c =
    let lists = c.args.lists.now.items in
    sym (left_none c.args.process (list_of c.args.process lists) c.args.waiting.now.items (ap (λ n. list_of n lists) c.if-process-eq0.true))

pub returns-then-len-index-clause-kept : goal.returns-then-len-index-clause-kept
returns-then-len-index-clause-kept c =
    let p = c.args.process in
    let lists = c.args.lists.now.items in
    let past : length lists ≤ p - 1 = omega (arith, c.if-len-index.true, c.len.ensures, c.args.lists.now.ok.0) in
    sym (left_none p (list_of p lists) c.args.waiting.now.items (list_past lists p c.if-process-eq0.false past))

pub returns-clause-kept : goal.returns-clause-kept
returns-clause-kept c =
    let p = c.args.process in
    let lists = c.args.lists.now.items in
    let ws = c.args.waiting.now.items in
    let one = c.index.result.now in
    let within : p - 1 < length lists = omega (arith, c.if-len-index.false, c.len.ensures, c.args.lists.now.ok.0) in
    let own : c.places.result.now ≡ list_of p lists =
    c.places.ensures.places ∙ c.index.ensures ∙ sym (list_at lists p one c.if-process-eq0.false within) in
    c.leave_all.ensures.kept ∙ ap (λ l. filter (λ w. not (is_left p l w)) ws) own
