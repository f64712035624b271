use Rattle.std.proofs.Common.{sym, ◌∙◌, arith}
use Rattle.b67_asm.proofs.Gathering.{gathered_all, gathered_more, gathered_none}
use Rattle.b67_asm.proofs.Segments.{at_end, at_segment}
use Rattle.b67_asm.proofs.label.labels_of.Goals as goal

pub lines-init : goal.lines-init
lines-init c = gathered_none c.args.lines.now c.args.from c.new-labels.result c.requires.from c.new-labels.ensures.empty

pub gather-requires-clause-at : goal.gather-requires-clause-at
gather-requires-clause-at c = omega (arith, c.requires.few, c.lines-test.true, c.lines.invariant.most)

pub gather-requires-clause-inside : goal.gather-requires-clause-inside
gather-requires-clause-inside c = sym c.is_segment.ensures ∙ c.if-is_segment.false

pub lines-preserved : goal.lines-preserved
lines-preserved c =
    gathered_more c.args.lines.now c.args.from c.lines.labels c.lines.at c.lines.next c.lines.invariant c.gather.new.labels _ c.index-lines-next.result c.lines-test.true
    c.index-lines-next.is c.in_ok-at.ensures.gathers c.in_ok-at.ensures.most

pub returns-then-is_segment : goal.returns-then-is_segment
returns-then-is_segment c =
    gathered_all c.args.lines.now c.args.from c.lines.labels c.lines.at c.lines.next c.lines.invariant
    (at_segment c.args.lines.now c.lines.next c.index-lines-next.result c.lines-test.true c.index-lines-next.is (sym c.is_segment.ensures ∙ c.if-is_segment.true))

pub returns : goal.returns
returns c =
    gathered_all c.args.lines.now c.args.from c.lines.labels c.lines.at c.lines.next c.lines.invariant (at_end c.args.lines.now c.lines.next c.lines-test.false)
