use Rattle.std.proofs.Common.{ap, arith, drop, ◌∙◌}
use Rattle.b67_segment.specs.Syllables.{syllables}
use Rattle.b67_listing.specs.Listings.{passed_mark}
use Rattle.b67_listing.proofs.Filling.{passes}
use Rattle.b67_asm_writer.proofs.Written.{written_all, written_more, written_none}
use Rattle.b67_asm_writer.proofs.segment.push_segment.Goals as goal

pub operators-init : goal.operators-init
operators-init c =
    written_none c.args.segment.now c.in_ok-bytes.bytes.items c.extend_from_slice.new.self.items c.requires (c.in_ok-bytes.ensures ∙ ap syllables (c.as_slice.ensures.value ∙ c.items.ensures))

pub push_line-requires-clause-level : goal.push_line-requires-clause-level
push_line-requires-clause-level c =
    (passes c.args.segment.now c.in_ok-bytes.bytes.items c.operators.at c.operators.passed c.operators.level c.operators.invariant.before c.pass_mark-here.result c.operators.invariant.progress
    (omega (arith, c.in_ok-bytes.bytes.ok.0))
    (c.pass_mark-here.ensures ∙ ap (λ ms. passed_mark (drop c.operators.passed ms) c.operators.passed c.operators.at c.operators.level) (c.as_slice-marks.ensures.value ∙ c.items-2.ensures))).most

pub push_line-requires-clause-stands : goal.push_line-requires-clause-stands
push_line-requires-clause-stands c =
    rw c.as_slice-in-operators.ensures.value
    ((passes c.args.segment.now c.in_ok-bytes.bytes.items c.operators.at c.operators.passed c.operators.level c.operators.invariant.before c.pass_mark-here.result c.operators.invariant.progress
    (omega (arith, c.in_ok-bytes.bytes.ok.0))
    (c.pass_mark-here.ensures ∙ ap (λ ms. passed_mark (drop c.operators.passed ms) c.operators.passed c.operators.at c.operators.level) (c.as_slice-marks.ensures.value ∙ c.items-2.ensures))).stands)

pub operators-preserved : goal.operators-preserved
operators-preserved c =
    written_more c.args.segment.now c.in_ok-bytes.bytes.items c.operators.at c.operators.passed c.operators.level c.extend_from_slice.new.self.items c.operators.text.items c.operators.invariant
    c.pass_mark-here.result c.push_level.new.text.items c.push_line.new.text.items c.in_ok-at.at (omega (arith, c.in_ok-bytes.bytes.ok.0))
    (c.pass_mark-here.ensures ∙ ap (λ ms. passed_mark (drop c.operators.passed ms) c.operators.passed c.operators.at c.operators.level) (c.as_slice-marks.ensures.value ∙ c.items-2.ensures))
    c.in_ok-push_level.ensures (rw c.as_slice-in-operators.ensures.value at c.in_ok-at.ensures)

pub returns : goal.returns
returns c =
    written_all c.args.segment.now c.in_ok-bytes.bytes.items c.operators.at c.operators.passed c.operators.level c.extend_from_slice.new.self.items c.operators.text.items c.operators.invariant
    c.args.text.now.items c.in_ok-extend_from_slice.ensures.items (omega (arith, c.in_ok-bytes.bytes.ok.0))
