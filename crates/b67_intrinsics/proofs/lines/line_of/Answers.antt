use Rattle.std.proofs.Common.{◌∙◌, ap, length, List, arith}
use Rattle.b67_segment.specs.declared.code.Phrase.{Phrase}
use Rattle.b67_intrinsics.proofs.Phrases.{begun_short}
use Rattle.b67_intrinsics.proofs.lines.line_of.Goals as goal

pub returns-then-used-items : goal.returns-then-used-items
returns-then-used-items c =
    begun_short c.args.format.now.phrases c.args.items.now c.phrases.text.items c.phrases.phrase-index c.phrases.used
    (omega (arith, c.phrases-test.false, ap (λ (ps : List Phrase). length ps) (c.deref-phrase-items.ensures.value ∙ c.items.ensures)))
    c.phrases.invariant.begun c.if-used-items.true
