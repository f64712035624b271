use Rattle.std.proofs.Common.{◌≡◌, ◌^◌, ◌<◌, ◌++◌, length, replicate, All, ◌∙◌}
use Rattle.b67_segment.specs.Operators.{missing, filler}
use Rattle.b67_segment.specs.Syllables.{syllables}
use Rattle.b67_segment.proofs.Filling.{Spells_filled}
use Rattle.b67_segment.proofs.builder.Builder.finish.Goals as goal

pub returns : goal.returns
returns c =
    let bytes = c.self.inside.syllables.items in
    let code : syllables c.of.result ≡ bytes ++ replicate (missing (length bytes)) filler =
    rw c.of.ensures (c.in_ok-words.ensures.code ∙ c.deref.ensures.value ∙ c.in_ok-fill.ensures) in
    let small : All (λ word. word < 2 ^ 48) c.of.result = rw c.of.ensures c.in_ok-words.ensures.small in
    rw (← c.self.view_is) (Spells_filled c.self.invariant.builds c.of.result c.of-2.result code small c.of-2.ensures)
