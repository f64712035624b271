use Rattle.std.proofs.Common.{ap, ◌∙◌}
use Rattle.algol_tree.specs.Image as image
use Rattle.algol_tree.specs.Plain as trees
use Rattle.algol_part.proofs.simple.assigned.Goals as goal

pub returns : goal.returns
returns c = c.assignment.ensures ∙ ap (λ xs. trees.assign (trees.subscripted c.args.name (image.exprs xs)) (image.expr c.args.value)) (c.of.ensures ∙ c.new.ensures.items)
