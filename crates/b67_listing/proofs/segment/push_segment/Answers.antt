use Rattle.std.proofs.Common.{[], ◌∷◌, ◌++◌, ◌∙◌, ap, arith, length, drop}
use Rattle.b67_segment.specs.Syllables.{syllables}
use Rattle.b67_listing.specs.Listings.{passed_mark, segment_line}
use Rattle.b67_listing.proofs.segment.push_segment.Goals as goal
use Rattle.b67_listing.proofs.Filling.{starts, turn, ended}

pub operators-init : goal.operators-init
operators-init c =
    starts c.args.segment.now c.in_ok-bytes.bytes.items c.push.new.self.items c.requires (c.in_ok-bytes.ensures ∙ ap syllables (c.as_slice.ensures.value ∙ c.items-2.ensures))

pub push_operator-requires-clause-level : goal.push_operator-requires-clause-level
push_operator-requires-clause-level c =
    (turn c.args.segment.now c.in_ok-bytes.bytes.items c.operators.at c.operators.passed c.operators.level c.push.new.self.items c.operators.lines.items c.pass_mark.result c.operators.invariant
    (omega (arith, c.in_ok-bytes.bytes.ok.0))
    (c.pass_mark.ensures ∙ ap (λ ms. passed_mark (drop c.operators.passed ms) c.operators.passed c.operators.at c.operators.level) (c.as_slice-marks.ensures.value ∙ c.items-3.ensures))).most

pub push_operator-requires-clause-stands : goal.push_operator-requires-clause-stands
push_operator-requires-clause-stands c =
    rw c.as_slice-in-operators.ensures.value
    ((turn c.args.segment.now c.in_ok-bytes.bytes.items c.operators.at c.operators.passed c.operators.level c.push.new.self.items c.operators.lines.items c.pass_mark.result c.operators.invariant
    (omega (arith, c.in_ok-bytes.bytes.ok.0))
    (c.pass_mark.ensures ∙ ap (λ ms. passed_mark (drop c.operators.passed ms) c.operators.passed c.operators.at c.operators.level) (c.as_slice-marks.ensures.value ∙ c.items-3.ensures))).stands)

pub operators-preserved : goal.operators-preserved
operators-preserved c =
    (turn c.args.segment.now c.in_ok-bytes.bytes.items c.operators.at c.operators.passed c.operators.level c.push.new.self.items c.operators.lines.items c.pass_mark.result c.operators.invariant
    (omega (arith, c.in_ok-bytes.bytes.ok.0))
    (c.pass_mark.ensures ∙ ap (λ ms. passed_mark (drop c.operators.passed ms) c.operators.passed c.operators.at c.operators.level) (c.as_slice-marks.ensures.value ∙ c.items-3.ensures))).goes_on
    c.in_ok-at.at c.push_operator.new.lines.items (rw c.as_slice-in-operators.ensures.value at c.in_ok-at.ensures)

pub returns : goal.returns
returns c =
    ended c.args.segment.now c.in_ok-bytes.bytes.items c.operators.at c.operators.passed c.operators.level c.args.number c.args.lines.now.items c.push.new.self.items c.operators.lines.items c.operators.invariant
    (omega (arith, c.in_ok-bytes.bytes.ok.0))
    (c.in_ok-push.ensures.items ∙ ap (λ line. c.args.lines.now.items ++ line ∷ []) (c.in_ok-segment_line.ensures
    ∙ ap (λ n. segment_line c.args.number n) (c.len.ensures ∙ c.items.result.now.ok.0 ∙ ap length c.items.ensures)))
