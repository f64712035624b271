use Rattle.std.proofs.Common.{ap, ◌∙◌, inl, inr, arith}
use Rattle.b67_ops.specs.Codes.{code_of}
use Rattle.b67_ops.specs.Spelling.{kind_of}
use Rattle.b67_ops.proofs.CodeLemmas.{code_of_valc, code_of_namc}
use Rattle.b67_ops.proofs.encode.Goals as goal

pub push_couple-requires-clause-code : goal.push_couple-requires-clause-code
push_couple-requires-clause-code c =
    let is = c.code-code.ensures ∙ ap code_of c.kind.ensures in
    elim c.in-Valc.is [
      | inl valc ↦ let e = is ∙ ap (λ op. code_of (kind_of op)) valc ∙ code_of_valc in omega arith
      | inr namc ↦ let e = is ∙ ap (λ op. code_of (kind_of op)) namc ∙ code_of_namc in omega arith
    ]
