use Rattle.std.proofs.Common.{◌≡◌, ◌≤◌, ◌++◌, length, take, drop, sym, ap, ◌∙◌, arith}
use Rattle.std.proofs.lemmas.List.{take-append-drop}
use Rattle.b67_events.specs.Kept.{below}
use Rattle.b67_events.proofs.Order.{below_more, below_within, cut_is, length_taken}
use Rattle.b67_events.proofs.queues.cut.Goals as goal

pub below_from-end-requires : goal.below_from-end-requires
below_from-end-requires c = rw c.requires.known (below_more c.args.from c.args.to c.args.waiting.now.items c.requires.rise)

pub cutting-init : goal.cutting-init
cutting-init c =
    let ws = c.args.waiting.now.items in
    let more = below_more c.args.from c.args.to ws c.requires.rise in
    record {
      items = rw c.below_from-end.ensures (sym (take-append-drop (below c.args.to ws) ws));
      first = omega (arith, more, c.below_from-end.ensures);
      last = omega (arith, c.below_from-end.ensures);
      capacity = omega arith;
    }

pub remove-requires : goal.remove-requires
remove-requires c =
    let ws = c.args.waiting.now.items in
    let tail = drop (below c.args.to ws) ws in
    let within = below_within c.args.to ws in
    let short : c.cutting.end ≤ length ws = omega (arith, within, c.cutting.invariant.last) in
    let long = length_taken c.cutting.end ws tail short in
    let count : length c.cutting.waiting.items ≡ length (take c.cutting.end ws ++ tail) = ap length c.cutting.invariant.items in
    omega (arith, long, count, c.cutting-test.true, c.cutting.waiting.ok)

pub returns-clause-kept : goal.returns-clause-kept
returns-clause-kept c =
    let ws = c.args.waiting.now.items in
    let same : c.cutting.end ≡ below c.args.from ws = omega (arith, c.cutting-test.false, c.cutting.invariant.first, c.requires.known) in
    c.cutting.invariant.items ∙ ap (λ k. take k ws ++ drop (below c.args.to ws) ws) same ∙ sym (cut_is c.args.from c.args.to ws c.requires.rise c.requires.order)
