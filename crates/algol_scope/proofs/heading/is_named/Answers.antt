use Rattle.std.proofs.Common.{[], ap, ◌∙◌}
use Rattle.std.specs.Prelude.{not}
use Rattle.algol_tree.specs.Sorts.{same_name}
use Rattle.algol_scope.proofs.Headings.{empty_named}
use Rattle.algol_scope.proofs.heading.is_named.Goals as goal

pub returns : goal.returns
returns c =
    empty_named c.bytes.result.now c.is_empty.result c.is_empty.ensures ∙ ap (λ z. not (same_name z [])) c.bytes.ensures
