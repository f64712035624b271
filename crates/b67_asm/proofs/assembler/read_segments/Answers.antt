use Rattle.std.proofs.lemmas.Result.{err_from_is_err_and}
use Rattle.b67_asm.proofs.Segments.{all_read, none_yet, one_more, refused_here}
use Rattle.b67_asm.proofs.assembler.read_segments.Goals as goal

pub segments-init : goal.segments-init
segments-init c = none_yet c.args.lines.now c.args.from c.new-segments.result.items c.requires.from c.requires.begins c.new-segments.ensures.items

pub returns-in_err-segment-clause-refused : goal.returns-in_err-segment-clause-refused
returns-in_err-segment-clause-refused c =
    let p = err_from_is_err_and c.from_residual.result c.from_residual.ensures.1 in
    rw (p.1, p.2) (refused_here c.args.lines.now c.args.from c.segments.at c.segments.segments.items c.in_err-segment.field-0.0 c.segments.invariant c.segments-test.true c.in_err-segment.ensures.refused)

pub segments-preserved : goal.segments-preserved
segments-preserved c =
    one_more c.args.lines.now c.args.from c.segments.at c.in_ok-segment.next c.segments.segments.items c.push.new.self.items c.in_ok-segment.segment c.segments.invariant
    c.segments-test.true c.in_ok-segment.ensures.read c.in_ok-push.ensures.items

pub returns-clause-read : goal.returns-clause-read
returns-clause-read c = all_read c.args.lines.now c.args.from c.segments.at c.segments.segments.items c.segments.invariant c.segments-test.false
