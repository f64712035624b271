use Rattle.std.proofs.Common.{Some, sym, ap, ◌∙◌}
use Rattle.b67_flat.proofs.flat_core.FlatCore.same_stack.Goals as goal

pub returns : goal.returns
returns c = λ h. sym c.in-Some.ensures ∙ ap Some (c.same_words.ensures h) ∙ c.in-Some-stack_words.ensures
