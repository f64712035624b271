use Rattle.std.proofs.Common.{sym, ◌∙◌, arith}
use Rattle.b67_asm.proofs.Segments.{at_end, at_segment, has_passed, head_broken, head_more, segments_more}
use Rattle.b67_asm.proofs.assembler.pass_head.Goals as goal

pub returns-then-is_segment-clause-passed : goal.returns-then-is_segment-clause-passed
returns-then-is_segment-clause-passed c =
    has_passed c.args.lines.now c.lines.at c.lines.invariant.within
    (at_segment c.args.lines.now c.lines.at c.index-lines-at.result c.lines-test.true c.index-lines-at.is (sym c.is_segment.ensures ∙ c.if-is_segment.true)) c.lines.invariant.same
    c.lines.invariant.segments

pub returns-in-Some-clause-refused : goal.returns-in-Some-clause-refused
returns-in-Some-clause-refused c =
    rw c.refused.ensures
    (c.lines.invariant.same
    ∙ head_broken c.args.lines.now c.lines.at c.index-lines-at.result c.lines-test.true c.index-lines-at.is (sym c.is_segment.ensures ∙ c.if-is_segment.false) c.in-Some.rule (sym c.in-Some.ensures))

pub lines-preserved : goal.lines-preserved
lines-preserved c =
    let plain = sym c.is_segment.ensures ∙ c.if-is_segment.false in
    record {
      within = omega (arith, c.lines-test.true);
      same = c.lines.invariant.same ∙ head_more c.args.lines.now c.lines.at c.index-lines-at.result c.lines-test.true c.index-lines-at.is plain (sym c.in-None.ensures);
      segments = c.lines.invariant.segments ∙ segments_more c.args.lines.now c.lines.at c.index-lines-at.result c.lines-test.true c.index-lines-at.is plain;
    }

pub returns-clause-passed : goal.returns-clause-passed
returns-clause-passed c =
    has_passed c.args.lines.now c.lines.at c.lines.invariant.within (at_end c.args.lines.now c.lines.at c.lines-test.false) c.lines.invariant.same c.lines.invariant.segments
