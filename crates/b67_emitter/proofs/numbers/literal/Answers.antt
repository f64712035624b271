use Rattle.std.proofs.Common.{◌≡◌, ℤ, pos, subst, arith, ap, ◌∙◌}
use Rattle.std.proofs.lemmas.Int.{ints, to_z-of_z}
use Rattle.b67_word.specs.Word.{operand}
use Rattle.b67_templates.specs.Fragments.{IsLiteral}
use Rattle.b67_emitter.proofs.Appends.{whole_literal}
use Rattle.b67_emitter.proofs.numbers.literal.Goals as goal

pub returns-in-Ok-clause-pushes : goal.returns-in-Ok-clause-pushes
returns-in-Ok-clause-pushes c =
    let same : pos c.in-Ok.value ≡ c.args.value = grind (arith, ints, to_z-of_z, c.in-Ok.ensures.1) in
    let L : ℤ → Type 0 = λ z. IsLiteral c.short_literal.result (operand z) in
    subst L same c.short_literal.ensures.pushes

pub returns-in-Err-clause-pushes : goal.returns-in-Err-clause-pushes
returns-in-Err-clause-pushes c =
    let same : c.operand.result ≡ operand c.args.value = grind (arith, ints, to_z-of_z, c.operand.ensures, c.number-in-Err.ensures.value) in
    whole_literal c.args.value c.bits.result (c.bits.ensures.value ∙ ap (λ w. w.bits) same)
