use Rattle.std.proofs.Common.{ap, ◌∙◌, ℕ, List, arith}
use Rattle.std.specs.List.{flat_map}
use Rattle.std.proofs.lemmas.List.{take_all}
use Rattle.b67_console.proofs.texts.joined.Goals as goal

pub returns : goal.returns
returns c =
    c.texts.invariant
    ∙ ap (λ (few : List (List ℕ)). flat_map (λ (one : List ℕ). one) few) (take_all c.texts.one-index c.args.texts.now (omega (arith, c.texts-test.false)))
