use Rattle.std.proofs.Common.{ap, sym, None}
use Rattle.b67_segment.specs.Operators.{is_level}
use Rattle.b67_segment.proofs.Texts.{marked_last}
use Rattle.b67_segment.proofs.builder.is_at.Goals as goal

pub returns-in-Some : goal.returns-in-Some
returns-in-Some c =
    ap (λ k. is_level k c.args.level) (sym (marked_last None c.args.marks.now c.in-Some.mark.now (sym c.in-Some.ensures.value)))
